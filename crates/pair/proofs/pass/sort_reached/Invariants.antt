-- `pair::pass::sort_reached` meets its contract.
use Prim.Native.Nat.{◌-◌}
use mathlib.Core.Path.{ap, ◌∙◌}
use borrow.Author.Tests.{not-false}
use Rattle.verdict.specs.Facts.{all_tests}
use Rattle.pair.proofs.Passing.{Reached, reached_none, reached-more}
use borrow.Author.Rules.{rules}
use mathlib.Core.Bool.{not}
use Rattle.pair.proofs.pass.sort_reached.Given as goal

abbrev pub invariant-loop-at : goal.invariant-loop-at
invariant-loop-at l = Reached l.f l.g l.k l.from l.until l.at

abbrev pub decreases-loop-at : goal.decreases-loop-at
decreases-loop-at l = l.until - l.at
