-- What each way through a turnout, and through `way_of`, shows, over plain variables.
use Prim.Native.Nat.{ℕ}
use mathlib.Core.Path.{◌≡◌, refl, ap, ◌∙◌}
use mathlib.Core.List.{List}
use mathlib.Core.Bool.{Bool, true, false}
use lib.Dec.{eqb}
use borrow.Author.Tests.{eq-eqb, ne_eqb, eqb-true}
use Rattle.route_graph.specs.declared.PlainLinks.{PlainLinks}
use Rattle.route_graph.specs.declared.TurnoutLinks.{TurnoutLinks}
use Rattle.route_graph.specs.declared.Object.{Object}
use Rattle.route_graph.specs.declared.Object.TheVariants.{Boundary, Plain, Turnout, Nothing}
use Rattle.route_graph.specs.Ways.{onward_of}
use Rattle.ahead.specs.declared.Stop.TheVariants as stop
use Rattle.std.specs.Prelude.{Ok, Err}
use Rattle.ahead.specs.Lies.{lie_of}
use denote.Enum.Bare.{sameb}
use Rattle.ahead.specs.contracts.ways.Lie.{the_type}
use Rattle.ahead.specs.declared.ways.Lie.{Lie}
use Rattle.ahead.specs.declared.ways.Lie.TheVariants.{Normal, Reverse, Unknown}
use Rattle.ahead.specs.inner.Lie.{byte_of, lie_named}
use Rattle.ahead.specs.Ways.{Way, front_of, trail_of, leg_of, way_of}

module _ (t : TurnoutLinks) (from lie : ℕ) where
  module _ (f : t.front ≡ from) where
    pub by_front : (w : Way) → w ≡ front_of t lie → w ≡ leg_of t from lie
    unfolding leg_of
    by_front w e = rw (eq-eqb t.front from f) e

    pub leg_normal : lie ≡ 0 → Ok t.normal ≡ leg_of t from lie
    unfolding front_of
    leg_normal e = by_front (Ok t.normal) (rw (front_of, eq-eqb lie 0 e) refl)

    pub leg_reverse : (lie ≡ 0 → ⊥) → lie ≡ 1 → Ok t.reverse ≡ leg_of t from lie
    unfolding front_of
    leg_reverse n e = by_front (Ok t.reverse) (rw (front_of, ne_eqb lie 0 n, eq-eqb lie 1 e) refl)

    pub leg_unknown : (lie ≡ 0 → ⊥) → (lie ≡ 1 → ⊥) → Err stop.UnknownLie ≡ leg_of t from lie
    unfolding front_of
    leg_unknown n e = by_front (Err stop.UnknownLie) (rw (front_of, ne_eqb lie 0 n, ne_eqb lie 1 e) refl)

  module _ (f : t.front ≡ from → ⊥) where
    pub by_normal : t.normal ≡ from → (w : Way) → w ≡ trail_of t lie 1 → w ≡ leg_of t from lie
    unfolding leg_of
    by_normal m w e = rw (ne_eqb t.front from f, eq-eqb t.normal from m) e

    pub by_reverse : (t.normal ≡ from → ⊥) → (w : Way) → w ≡ trail_of t lie 0 → w ≡ leg_of t from lie
    unfolding leg_of
    by_reverse m w e = rw (ne_eqb t.front from f, ne_eqb t.normal from m) e

    pub normal_against : t.normal ≡ from → lie ≡ 1 → Err stop.AgainstLie ≡ leg_of t from lie
    unfolding trail_of
    normal_against m e = by_normal m (Err stop.AgainstLie) (rw (trail_of, eq-eqb lie 1 e) refl)

    pub normal_through : t.normal ≡ from → (lie ≡ 1 → ⊥) → Ok t.front ≡ leg_of t from lie
    unfolding trail_of
    normal_through m e = by_normal m (Ok t.front) (rw (trail_of, ne_eqb lie 1 e) refl)

    pub reverse_against : (t.normal ≡ from → ⊥) → lie ≡ 0 → Err stop.AgainstLie ≡ leg_of t from lie
    unfolding trail_of
    reverse_against m e = by_reverse m (Err stop.AgainstLie) (rw (trail_of, eq-eqb lie 0 e) refl)

    pub reverse_through : (t.normal ≡ from → ⊥) → (lie ≡ 0 → ⊥) → Ok t.front ≡ leg_of t from lie
    unfolding trail_of
    reverse_through m e = by_reverse m (Ok t.front) (rw (trail_of, ne_eqb lie 0 e) refl)

-- lies are the same where their bytes are
pub same_byte : (a b : Lie) → eqb (byte_of a) (byte_of b) ≡ sameb the_type a b
same_byte Normal Normal = refl
same_byte Normal Reverse = refl
same_byte Normal Unknown = refl
same_byte Reverse Normal = refl
same_byte Reverse Reverse = refl
same_byte Reverse Unknown = refl
same_byte Unknown Normal = refl
same_byte Unknown Reverse = refl
same_byte Unknown Unknown = refl

-- a turnout is passed by the lie that its byte names
leg_named : (t : TurnoutLinks) (from b : ℕ) → leg_of t from (byte_of (lie_named b)) ≡ leg_of t from b
unfolding leg_of front_of trail_of
leg_named t from b = go (eqb b 0) (eqb b 1) refl refl
  where
    go : (p q : Bool) → eqb b 0 ≡ p → eqb b 1 ≡ q → leg_of t from (byte_of (lie_named b)) ≡ leg_of t from b
    go true q e h = rw (eqb-true b 0 e) refl
    go false true e h = rw (eqb-true b 1 h) refl
    go false false e h = simp (leg_of, front_of, trail_of, e, h)

module _ (o : Object) (from : ℕ) (lies : List ℕ) where
  pub way_boundary : (link : ℕ) → o ≡ Boundary link → Err stop.Boundary ≡ way_of o from lies
  unfolding way_of
  way_boundary link e = rw e refl

  pub way_plain : (p : PlainLinks) (x : ℕ) → o ≡ Plain p → x ≡ onward_of p from → Ok x ≡ way_of o from lies
  unfolding way_of
  way_plain p x e h = rw e (ap Ok h)

  pub way_turnout : (t : TurnoutLinks) (lie : Lie) (w : Way) → o ≡ Turnout t → lie ≡ lie_named (lie_of lies t.number) → w ≡ leg_of t from (byte_of lie) → w ≡ way_of o from lies
  unfolding way_of
  way_turnout t lie w e z h = rw e (h ∙ ap (λ (y : Lie). leg_of t from (byte_of y)) z ∙ leg_named t from (lie_of lies t.number))

  pub way_nothing : o ≡ Nothing → Ok 0 ≡ way_of o from lies
  unfolding way_of
  way_nothing e = rw e refl
