-- What stands at a place has the links that stand at the link places of its kind, and `boundary_starts` tells where a boundary's record starts.
use Prim.Native.Nat.{ℕ, ◌-◌, ◌%◌, ◌≤◌, ◌<◌}
use native.Mathlib.Omega.{arith}
use mathlib.Core.Path.{◌≡◌, refl, sym, ◌∙◌}
use mathlib.Core.Bool.{Bool, true, false, cond}
use mathlib.Core.Logic.{◌↔◌}
use mathlib.Core.List.{List, map, Memᴰ}
use lib.Dec.{leb, ltb}
use borrow.Author.Tests.{leb-true, ltb-true, ltb-false, eqb-true, le-leb, lt-ltb, eq-eqb}
use Rattle.octets.specs.Octets.{num_at}
use Rattle.verdict.proofs.Orders.{and-true}
use Rattle.x2_records.specs.declared.Kind.{Kind}
use Rattle.x2_records.specs.declared.Kind.TheVariants as kind
use Rattle.x2_records.specs.Records.{link_places}
use Rattle.x2_records.specs.Places.{boundary_size}
use Rattle.x2_layout.specs.declared.Layout.{Layout}
use Rattle.x2_layout.specs.Records.{kind_at, starts}
use Rattle.x2_layout.specs.inner.Regions.{Regions}
use Rattle.x2_layout.proofs.Starts.{start_tested, found_boundary, start_least, start_below}
use Rattle.route_graph.specs.Objects.{view_at, object_at, links_of, is_boundary, offset_most, boundary_starts}

view_links : (f : List ℕ) (k : Kind) (at : ℕ) → links_of (view_at f k at) ≡ map (num_at 2 f) (link_places k at)
unfolding view_at
view_links f kind.StartBoundary at = refl
view_links f kind.EndBoundary at = refl
view_links f kind.Turnout at = refl
view_links f kind.Balise at = refl
view_links f kind.Signal at = refl
view_links f kind.Joint at = refl
view_links f kind.Siding at = refl

-- THEOREM: the links of an object are the numbers at the link places of its kind, in their order
pub links_are : (f : List ℕ) (l : Layout) (at : ℕ) → links_of (object_at f l at) ≡ map (num_at 2 f) (link_places (kind_at l at) at)
unfolding object_at
links_are f l at = view_links f (kind_at l at) at

pub record BoundaryAt (l : Layout) (x : ℕ) : Type 0 where
  pub small : x ≤ offset_most
  pub after_header : l.starts ≤ x
  pub before_end : x < l.turnouts
  pub whole : (x - l.starts) % boundary_size ≡ 0

-- what `boundary_starts` tests
pub boundary_facts : (l : Layout) (x : ℕ) → boundary_starts l x ≡ true → BoundaryAt l x
unfolding boundary_starts
boundary_facts l x e =
    let a = and-true (leb x offset_most) _ e in
    let b = and-true (leb l.starts x) _ a.1 in
    let c = and-true (ltb x l.turnouts) _ b.1 in
    record { small = leb-true x offset_most a.0; after_header = leb-true l.starts x b.0; before_end = ltb-true x l.turnouts c.0; whole = eqb-true ((x - l.starts) % boundary_size) 0 c.1 }

-- the facts pass the test
pub boundary_tested : (l : Layout) (x : ℕ) → BoundaryAt l x → boundary_starts l x ≡ true
unfolding boundary_starts
boundary_tested l x b =
    rw (le-leb x offset_most b.small, le-leb l.starts x b.after_header, lt-ltb x l.turnouts b.before_end, eq-eqb ((x - l.starts) % boundary_size) 0 b.whole, boundary_starts) refl

-- the kinds by region, as far as the boundaries go
kind_boundary : (f : List ℕ) (l : Layout) (x : ℕ) → l.ends ≤ l.turnouts → is_boundary (object_at f l x) ≡ ltb x l.turnouts
unfolding object_at view_at kind_at
kind_boundary f l x h = go (ltb x l.ends) (ltb x l.turnouts) refl refl
  where
    other : Bool → Bool → Bool → Bool → Kind
    other c d e g = cond c kind.Turnout (cond d kind.Balise (cond e kind.Signal (cond g kind.Joint kind.Siding)))

    beyond : (c d e g : Bool) → is_boundary (view_at f (other c d e g) x) ≡ false
    beyond true d e g = refl
    beyond false true e g = refl
    beyond false false true g = refl
    beyond false false false true = refl
    beyond false false false false = refl

    go : (a b : Bool) → ltb x l.ends ≡ a → ltb x l.turnouts ≡ b
        → is_boundary (view_at f (cond a kind.StartBoundary (cond b kind.EndBoundary (other (ltb x l.balises) (ltb x l.signals) (ltb x l.joints) (ltb x l.sidings)))) x) ≡ b
    go true true p q = refl
    go true false p q = let m = ltb-true x l.ends p in let n = ltb-false x l.turnouts q in absurd (omega arith)
    go false true p q = refl
    go false false p q = beyond (ltb x l.balises) (ltb x l.signals) (ltb x l.joints) (ltb x l.sidings)

-- THEOREM: of a file whose layout is right, `boundary_starts` tells where a boundary's record starts
pub boundary_iff : (f : List ℕ) (l : Layout) (x : ℕ) → Regions f l → l.end ≤ offset_most
    → (boundary_starts l x ≡ true) ↔ (Memᴰ x (starts f l) × (is_boundary (object_at f l x) ≡ true))
boundary_iff f l x r small = (there, back)
  where
    there : boundary_starts l x ≡ true → Memᴰ x (starts f l) × (is_boundary (object_at f l x) ≡ true)
    there e =
        let b = boundary_facts l x e in
        let t = sym (found_boundary f l r x b.after_header b.before_end) ∙ eq-eqb ((x - l.starts) % boundary_size) 0 b.whole in
        ((start_tested f l x).0 t, kind_boundary f l x (omega (arith, r.end_boundaries)) ∙ lt-ltb x l.turnouts b.before_end)

    back : Memᴰ x (starts f l) × (is_boundary (object_at f l x) ≡ true) → boundary_starts l x ≡ true
    back h =
        let below = ltb-true x l.turnouts (sym (kind_boundary f l x (omega (arith, r.end_boundaries))) ∙ h.1) in
        let least = start_least f l r x h.0 in
        let t = found_boundary f l r x least below ∙ (start_tested f l x).1 h.0 in
        boundary_tested l x (record { small = omega (arith, start_below f l r x h.0); after_header = least; before_end = below; whole = eqb-true ((x - l.starts) % boundary_size) 0 t })
