-- `pair::pass::sort_reached` meets its contract.
use Prim.Native.Nat.{◌-◌}
use mathlib.Core.Path.{ap, ◌∙◌}
use borrow.Author.Tests.{not-false}
use Rattle.verdict.specs.Facts.{all_tests}
use Rattle.pair.proofs.Passing.{Reached, reached_none, reached-more}
use borrow.Author.Rules.{rules}
use mathlib.Core.Bool.{not}
use Rattle.pair.proofs.pass.sort_reached.Goals as goal

pub loop-at-init : goal.loop-at-init
loop-at-init c = reached_none

pub returns-then-not-lies_obeys : goal.returns-then-not-lies_obeys
returns-then-not-lies_obeys c = c.loop-at.invariant.onward

pub loop-at-preserved : goal.loop-at-preserved
loop-at-preserved c = let h = c.loop-at in
    reached-more h.invariant c.loop-at-test.true
    (ap all_tests (c.requires.1 h.at) ∙ c.lies_obeys.ensures (not-false _ (ap not c.if-not-lies_obeys.false))) c.size_of-at.ensures

pub returns : goal.returns
returns c = c.loop-at.invariant.onward
