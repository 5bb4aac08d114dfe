-- `pair::spots::records_told` meets its contract.
use Prim.Native.Nat.{◌-◌}
use Rattle.x2_layout.specs.inner.Walking.{Walking}
use Rattle.x2_layout.proofs.Walking.{walking_stop}
use Rattle.std.specs.Prelude.{Ok, Err}
use Rattle.pair.specs.Pair.{record_pair, records_pair}
use Rattle.pair.proofs.Passing.{told_over, told_fault}
use borrow.Author.Rules.{rules}
use Rattle.pair.proofs.spots.records_told.Given as goal

abbrev pub invariant-loop-at : goal.invariant-loop-at
invariant-loop-at l = Walking l.g l.l (record_pair l.f l.g) l.at

abbrev pub decreases-loop-at : goal.decreases-loop-at
decreases-loop-at l = l.l.end - l.at
