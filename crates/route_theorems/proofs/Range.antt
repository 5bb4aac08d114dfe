-- In an accepted file: where a boundary of either kind starts, where a question is in range, that from a boundary there is one list with
-- all routes in their order, and that no walk meets a balise of place above 1.
use Prim.Native.Nat.{ℕ, ◌≤◌}
use native.Mathlib.Omega.{arith}
use mathlib.Core.Path.{◌≡◌, refl, sym}
use mathlib.Core.Bool.{Bool, true, false, cond, true≢false}
use mathlib.Core.Logic.{◌⊎◌, inl, inr, ⊎_elim, ◌↔◌}
use mathlib.Core.List.{List, Memᴰ}
use lib.Dec.{eqb}
use borrow.Author.Tests.{eqb-true, eqb-false}
use Rattle.std.specs.Prelude.{Ok, Err}
use Rattle.x2_records.specs.declared.Kind.{Kind}
use Rattle.x2_records.specs.declared.Kind.TheVariants as kind
use Rattle.x2_layout.specs.Layout.{layout_of}
use Rattle.x2_layout.specs.Records.{kind_at}
use Rattle.x2_obeys.specs.Fields.{Member}
use Rattle.x2_obeys.specs.Links.{Target}
use Rattle.x2_verdict.specs.Facts.{verdict_of}
use Rattle.route_graph.specs.Objects.{view_at, object_at, is_boundary, boundary_starts}
use Rattle.route_graph.proofs.Places.{boundary_iff}
use Rattle.route_walks.specs.Legal.{Walk}
use Rattle.route_walks.specs.All.{AllRoutes}
use Rattle.route_walks.proofs.Legal.{walk_good}
use Rattle.route_lister.specs.Answered.{default_limit, limit_of}
use Rattle.route_lister.specs.Listing.{Within}
use Rattle.route_theorems.proofs.OneList as routes
use Rattle.route_theorems.specs.Asked.{BoundaryHere, InRange}
use Rattle.route_theorems.proofs.Links.{no_member}
use Rattle.route_theorems.proofs.Listed.{whole, small, linked, place}

-- a record is seen as a boundary exactly where its kind is one of the two
boundary_kind : (f : List ℕ) (k : Kind) (x : ℕ) → (is_boundary (view_at f k x) ≡ true) ↔ ((k ≡ kind.StartBoundary) ⊎ (k ≡ kind.EndBoundary))
unfolding view_at
boundary_kind f k x = (there k, ⊎_elim (λ (e : k ≡ kind.StartBoundary). rw e refl) (λ (e : k ≡ kind.EndBoundary). rw e refl))
  where
    there : (k : Kind) → is_boundary (view_at f k x) ≡ true → (k ≡ kind.StartBoundary) ⊎ (k ≡ kind.EndBoundary)
    there kind.StartBoundary e = inl refl
    there kind.EndBoundary e = inr refl
    there kind.Turnout e = absurd (true≢false (sym e))
    there kind.Balise e = absurd (true≢false (sym e))
    there kind.Signal e = absurd (true≢false (sym e))
    there kind.Joint e = absurd (true≢false (sym e))
    there kind.Siding e = absurd (true≢false (sym e))

-- the limit that is meant is 2 to 512 exactly where the one asked for is, or is 0
limit_iff : (limit : ℕ) → ((2 ≤ limit_of limit) × (limit_of limit ≤ 512)) ↔ ((limit ≡ 0) ⊎ ((2 ≤ limit) × (limit ≤ 512)))
unfolding limit_of
limit_iff limit = by_test (eqb limit 0) refl
  where
    by_test : (t : Bool) → eqb limit 0 ≡ t → ((2 ≤ cond t default_limit limit) × (cond t default_limit limit ≤ 512)) ↔ ((limit ≡ 0) ⊎ ((2 ≤ limit) × (limit ≤ 512)))
    by_test true e = (λ h. inl (eqb-true limit 0 e), λ h. (omega arith, omega arith))
    by_test false e = (λ h. inr h, ⊎_elim (λ (z : limit ≡ 0). absurd (eqb-false limit 0 e z)) (λ (h : (2 ≤ limit) × (limit ≤ 512)). h))

module _ (f : List ℕ) (e : verdict_of f ≡ Ok tt) where
  -- THEOREM: in an accepted file a boundary of either kind starts exactly where `boundary_starts` says
  pub boundary_here : (x : ℕ) → (boundary_starts (layout_of f) x ≡ true) ↔ BoundaryHere f x
  unfolding object_at
  boundary_here x =
      let starts = boundary_iff f (layout_of f) x (whole f e) (small f e) in
      let is = boundary_kind f (kind_at (layout_of f) x) x in (
        λ b. let h = starts.0 b in record { record_there = h.0; either_kind = is.0 h.1 },
        λ h. starts.1 (h.record_there, is.1 h.either_kind),
      )

  -- THEOREM: and a question on it is in range exactly where `Within` says
  pub range_iff : (start limit budget : ℕ) → Within (boundary_starts (layout_of f) start) (limit_of limit) budget ↔ InRange f start limit budget
  range_iff start limit budget = (
    λ w. let b = w.bounds in record { boundary = (boundary_here start).0 w.boundary; limit_asked = (limit_iff limit).0 (b.least, b.most); budget_asked = (b.some, b.few) },
    λ r. let m = (limit_iff limit).1 r.limit_asked in record { boundary = (boundary_here start).1 r.boundary; bounds = record { least = m.0; most = m.1; some = r.budget_asked.0; few = r.budget_asked.1 } },
  )

  -- ---- from a boundary

  module _ (start : ℕ) (here : BoundaryHere f start) where
    -- it is a place that a link may name
    pub target : Target f (layout_of f) start
    target = place f e start ((boundary_here start).1 here)

    -- THEOREM: there is one list with all routes, each once and in their order
    pub one_list : (limit : ℕ) (a b : List (List ℕ)) → AllRoutes (object_at f (layout_of f)) start limit a → AllRoutes (object_at f (layout_of f)) start limit b → a ≡ b
    one_list limit = routes.one_list (object_at f (layout_of f)) (Target f (layout_of f)) (linked f e) start limit target

    -- THEOREM (02, ticket 2): no walk meets a balise of place above 1
    pub first_only : (limit : ℕ) (w : List ℕ) → Walk (object_at f (layout_of f)) start limit w → (x : ℕ) → Memᴰ x w → Member f (layout_of f) x → ⊥
    first_only limit w h x m = no_member f (layout_of f) x (walk_good (object_at f (layout_of f)) (Target f (layout_of f)) (linked f e) start limit w x target h m)
