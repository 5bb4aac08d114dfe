-- `pair::pass::sidings_reached` meets its contract.
use Prim.Native.Nat.{ℕ, ◌-◌}
use mathlib.Core.Path.{refl, ap, ◌∙◌}
use native.Mathlib.Omega.{arith}
use Rattle.octets.specs.Octets.{num_at}
use Rattle.x1_lookup.specs.Lookup.{find_track}
use Rattle.x2_records.specs.declared.Kind.TheVariants as kind
use Rattle.x2_layout.specs.Records.{size_of}
use Rattle.pair.proofs.Passing.{Reached, reached_none, reached-more, stands_passed}
use borrow.Author.Rules.{rules}
use mathlib.Core.Bool.{not}
use Rattle.pair.proofs.pass.sidings_reached.Goals as goal

pub loop-at-init : goal.loop-at-init
loop-at-init c = reached_none

pub returns-then-not-is_found : goal.returns-then-not-is_found
returns-then-not-is_found c = c.loop-at.invariant.onward

pub loop-at-preserved : goal.loop-at-preserved
unfolding size_of
loop-at-preserved c = let a = c.args in
    let h = c.loop-at in
    reached-more h.invariant c.loop-at-test.true
    (stands_passed a.f.now a.g.now h.at _ (c.track_at.ensures ∙ ap (λ (t : ℕ). find_track a.f.now (num_at 1 a.g.now t)) c.place_of.ensures) c.is_found.ensures (ap not c.if-not-is_found.false))
    (record { is = refl; least = omega arith; most = omega arith })

pub returns : goal.returns
returns c = c.loop-at.invariant.onward
