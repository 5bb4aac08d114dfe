-- `pair::pass::turnouts_reached` meets its contract.
use Prim.Native.Nat.{◌-◌}
use mathlib.Core.Path.{refl}
use native.Mathlib.Omega.{arith}
use borrow.Author.Tests.{not-false}
use Rattle.x2_records.specs.declared.Kind.TheVariants as kind
use Rattle.x2_layout.specs.Records.{size_of}
use Rattle.pair.proofs.Passing.{Reached, reached_none, reached-more}
use borrow.Author.Rules.{rules}
use mathlib.Core.Path.{ap}
use mathlib.Core.Bool.{not}
use Rattle.pair.proofs.pass.turnouts_reached.Goals as goal

pub loop-at-init : goal.loop-at-init
loop-at-init c = reached_none

pub returns-then-not-turnout_obeys : goal.returns-then-not-turnout_obeys
returns-then-not-turnout_obeys c = c.loop-at.invariant.onward

pub loop-at-preserved : goal.loop-at-preserved
unfolding size_of
loop-at-preserved c = let h = c.loop-at in
    reached-more h.invariant c.loop-at-test.true (c.turnout_obeys.ensures (not-false _ (ap not c.if-not-turnout_obeys.false))) (record { is = refl; least = omega arith; most = omega arith })

pub returns : goal.returns
returns c = c.loop-at.invariant.onward
