-- Routes read backwards (02, ticket 13), of a file and of what is answered of it.
use Prim.Native.Nat.{ℕ}
use native.Mathlib.Omega.{arith}
use mathlib.Core.Path.{◌≡◌, sym, ap, subst}
use mathlib.Core.Bool.{true}
use mathlib.Core.Logic.{⊎_elim, ◌↔◌}
use mathlib.Core.List.{List, reverse}
use Rattle.verdict.specs.declared.Fault.{Fault}
use Rattle.std.specs.Prelude.{Ok, Err}
use Rattle.verdict.specs.Answers.{answer_number, answer_place}
use Rattle.verdict.specs.Order.{Answered}
use Rattle.verdict.proofs.Questions.{accepted_by}
use Rattle.x2_layout.specs.Layout.{layout_of}
use Rattle.x2_obeys.specs.Links.{Target}
use Rattle.x2_verdict.specs.Facts.{verdict_of}
use Rattle.route_graph.specs.Objects.{object_at, is_boundary}
use Rattle.route_graph.proofs.Places.{boundary_iff}
use Rattle.route_walks.specs.Legal.{Route}
use Rattle.std.specs.Prelude.{Ok, Err}
use Rattle.route_lister.specs.Answered.{RoutesAnswer, limit_of, answer_in, routes_answer}
use Rattle.route_walks.specs.Lent.{room_of}
use Rattle.route_question.specs.Routes.{routes_asked}
use Rattle.route_theorems.specs.Asked.{BoundaryHere, routes_checks}
use Rattle.route_theorems.proofs.Asked.{routes_asked_lem}
use Rattle.route_theorems.proofs.Listed.{whole, small, linked, listed}
use Rattle.route_theorems.proofs.Range.{boundary_here, target}
use Rattle.route_backwards.specs.Backwards.{RouteTo, ListedIn, Backwards, NotRefused, seen_of}
use Rattle.route_backwards.proofs.Turned.{route_back_iff}
use Rattle.route_backwards.proofs.Reading as reading

-- ---- of a file

module _ (f : List ℕ) (e : verdict_of f ≡ Ok tt) where
  seen_boundary : (x : ℕ) → BoundaryHere f x → is_boundary (object_at f (layout_of f) x) ≡ true
  seen_boundary x here = ((boundary_iff f (layout_of f) x (whole f e) (small f e)).0 ((boundary_here f e x).1 here)).1

  -- THEOREM (02, ticket 13): in an accepted file w is a route from a to b within a limit exactly when its reverse is one from b to a
  pub routes_back : (a b : ℕ) → BoundaryHere f a → BoundaryHere f b → (limit : ℕ) (w : List ℕ)
      → RouteTo (object_at f (layout_of f)) a b limit w ↔ RouteTo (object_at f (layout_of f)) b a limit (reverse w)
  routes_back a b here there limit w =
      route_back_iff (object_at f (layout_of f)) (Target f (layout_of f)) (linked f e) a b limit
      (target f e a here) (target f e b there) (seen_boundary a here) (seen_boundary b there) w

-- ---- of a question that is not refused

module _ (q : NotRefused) where
  -- the file is accepted
  pub accepted : verdict_of q.file ≡ Ok tt
  unfolding routes_asked
  accepted = (accepted_by Err (verdict_of q.file) (answer_in q.file (layout_of q.file) q.start q.limit q.budget (room_of q.lent)) (Ok q.tally) never q.listed).0
    where
      never : (u : Fault) → Err u ≡ Ok q.tally → ⊥
      never u e = let z : ◌≡◌ {A = ℕ} 0 1 = cc in omega arith

  -- the start is a boundary
  pub here : BoundaryHere q.file q.start
  here =
      ⊎_elim
      (λ (x : (verdict_of q.file ≡ Ok tt) × Answered (routes_checks q.file q.start q.limit q.budget (room_of q.lent)) 0 0). x.1.0.boundary)
      (λ x. absurd (x.0 accepted))
      ((routes_asked_lem q.file q.start q.limit q.budget (room_of q.lent) 0 0).0 (ap (λ (r : RoutesAnswer). answer_number (routes_answer r)) q.listed, ap (λ (r : RoutesAnswer). answer_place (routes_answer r)) q.listed))

  -- THEOREM: what is listed in the memory after it are the routes
  pub listed_iff : (w : List ℕ) → ListedIn (seen_of q).words (seen_of q).memory w ↔ Route (object_at q.file (layout_of q.file)) q.start (limit_of q.limit) w
  listed_iff = reading.listed_iff _ _ _ _ _ _ _ (listed q.file accepted q.start q.limit q.budget q.lent q.tally q.listed)

module _ (p q : NotRefused) (files : p.file ≡ q.file) (limits : limit_of p.limit ≡ limit_of q.limit) where
  -- what is listed after q, over the file and the limit of p
  other_iff : (w : List ℕ) → ListedIn (seen_of q).words (seen_of q).memory w ↔ Route (object_at p.file (layout_of p.file)) q.start (limit_of p.limit) w
  other_iff w = rw (files, limits) (listed_iff q w)

  both_ways : (w : List ℕ) → RouteTo (object_at p.file (layout_of p.file)) p.start q.start (limit_of p.limit) w ↔ RouteTo (object_at p.file (layout_of p.file)) q.start p.start (limit_of p.limit) (reverse w)
  both_ways w = routes_back p.file (accepted p) p.start q.start (here p) (subst (λ (f : List ℕ). BoundaryHere f q.start) (sym files) (here q)) (limit_of p.limit) w

-- THEOREM (02, ticket 13): of two listings of one file by one limit that are not refused, whatever their budgets and their rooms, a route from the
-- one start to the other is listed exactly when its reverse is listed from there
pub lists_back : (p q : NotRefused) → Backwards (seen_of p) (seen_of q)
lists_back p q files limits w = (
  λ h. let r = (both_ways p q files limits w).0 (record { route = (listed_iff p w).0 h.listed; ends_at = h.ends_at }) in record { listed = (other_iff p q files limits (reverse w)).1 r.route; ends_at = r.ends_at },
  λ h. let r = (both_ways p q files limits w).1 (record { route = (other_iff p q files limits (reverse w)).0 h.listed; ends_at = h.ends_at }) in record { listed = (listed_iff p w).1 r.route; ends_at = r.ends_at },
)
