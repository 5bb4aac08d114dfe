-- An accepted X.2 file's links, in the form that the routes need: `Target` is what a link may name.
use Prim.Native.Nat.{ℕ, ◌+◌, ◌/◌, ◌%◌, ◌≤◌}
use native.Mathlib.Omega.{arith}
use mathlib.Core.Path.{◌≡◌, sym, subst, ◌∙◌}
use mathlib.Core.Bool.{true, true≢false}
use mathlib.Core.List.Memᴰ
use mathlib.Core.List.{List, [], ◌∷◌, map, Memᴰ}
use Rattle.octets.specs.Octets.{num_at}
use Rattle.x2_records.specs.declared.Kind.{Kind}
use Rattle.x2_records.specs.declared.Kind.TheVariants as kind
use Rattle.x2_records.specs.Records.{link_places}
use Rattle.x2_layout.specs.declared.Layout.{Layout}
use Rattle.x2_layout.specs.Records.{kind_at}
use Rattle.x2_layout.specs.inner.Regions.{Regions}
use Rattle.x2_layout.proofs.Starts.{start_least}
use Rattle.x2_obeys.specs.Fields.{Member}
use Rattle.x2_obeys.proofs.Values.{low_bits}
use Rattle.x2_obeys.specs.Links.{Linkable, Target, Distinct, TargetsObey, ReturnsObey}
use Rattle.route_graph.specs.Objects.{view_at, object_at, links_of, is_boundary, offset_most, boundary_starts}
use Rattle.route_graph.specs.Links.{Single, Joined}
use Rattle.route_graph.proofs.Places.{links_are, boundary_iff}

singles : (f ps : List ℕ) → Distinct f ps → Single (map (num_at 2 f) ps)
singles f [] d = tt
singles f (p ∷ ps) d = (
  (λ y m n e. let r = Memᴰ.of_map (num_at 2 f) ps m in d.0 r.0 r.1 (λ z. n (sym r.2 ∙ z)) (e ∙ sym r.2)),
  singles f ps d.1,
)

-- what a link may name is no balise of place above 1
pub no_member : (f : List ℕ) (l : Layout) (at : ℕ) → Target f l at → Member f l at → ⊥
no_member f l at g m =
    let first : num_at 1 f (at + 15) / 1 % 8 ≡ 0 = subst (λ (k : Kind). Linkable f k at) m.balise g.may in
    omega (arith, low_bits (num_at 1 f (at + 15)) 8, m.later)

module _ (f : List ℕ) (l : Layout) (r : Regions f l) (t : TargetsObey f l) (u : ReturnsObey f l) where
  -- a link of the record at `at`, with its place
  placed_link : (at x : ℕ) → Memᴰ x (links_of (object_at f l at)) → (p : ℕ) × Memᴰ p (link_places (kind_at l at) at) × (num_at 2 f p ≡ x)
  placed_link at x m = Memᴰ.of_map (num_at 2 f) (link_places (kind_at l at) at) (rw (links_are f l at) at m)

  goal : (at x : ℕ) → Target f l at → Memᴰ x (links_of (object_at f l at)) → ¬ (x ≡ 0) → Target f l x
  goal at x g m n =
      let q = placed_link at x m in
      subst (Target f l) q.2 (t.places at g.record_there q.0 q.1 (λ z. n (sym q.2 ∙ z)))

  back : (at x : ℕ) → Target f l at → Memᴰ x (links_of (object_at f l at)) → ¬ (x ≡ 0) → Memᴰ at (links_of (object_at f l x))
  back at x g m n =
      let q = placed_link at x m in
      let b = u.returned at g.record_there (no_member f l at g) q.0 q.1 (λ z. n (sym q.2 ∙ z)) in
      subst (λ (y : ℕ). Memᴰ at (links_of (object_at f l y))) q.2
      (rw (links_are f l (num_at 2 f q.0)) (Memᴰ.cast (sym b.names) (Memᴰ.map (num_at 2 f) b.its_link)))

  -- THEOREM
  pub joined : Joined (object_at f l) (Target f l)
  joined = record {
    placed = λ at g z. let h = start_least f l r at g.record_there in omega (arith, r.header);
    target = goal;
    returned = back;
    single = λ at g. rw (links_are f l at) (singles f (link_places (kind_at l at) at) (u.single at g.record_there (no_member f l at g)));
  }

  may_boundary : (k : Kind) (x : ℕ) → is_boundary (view_at f k x) ≡ true → Linkable f k x
  unfolding view_at
  may_boundary kind.StartBoundary x e = tt
  may_boundary kind.EndBoundary x e = tt
  may_boundary kind.Turnout x e = absurd (true≢false (sym e))
  may_boundary kind.Balise x e = absurd (true≢false (sym e))
  may_boundary kind.Signal x e = absurd (true≢false (sym e))
  may_boundary kind.Joint x e = absurd (true≢false (sym e))
  may_boundary kind.Siding x e = absurd (true≢false (sym e))

  -- THEOREM: a boundary is such a place
  pub boundary_place : l.end ≤ offset_most → (x : ℕ) → boundary_starts l x ≡ true → Target f l x
  unfolding object_at
  boundary_place small x e = let h = (boundary_iff f l x r small).0 e in record { record_there = h.0; may = may_boundary (kind_at l x) x h.1 }
