-- `pair::spots::records_told` meets its contract.
use Rattle.std.proofs.lemmas.Result.{err_from_is_err_and}
use Rattle.pair.specs.Pair.{records_pair}
use Rattle.x2_layout.proofs.Walking.{walking_stop}
use Rattle.pair.proofs.Passing.{told_over, told_fault}
use borrow.Author.Rules.{rules}
use Rattle.pair.proofs.spots.records_told.Goals as goal

pub loop-at-init : goal.loop-at-init
loop-at-init c = c.requires.2

pub returns-in_err-record_pair : goal.returns-in_err-record_pair
unfolding records_pair
returns-in_err-record_pair c =
    let p = err_from_is_err_and c.from_residual.result c.from_residual.ensures.1 in
    rw (p.1, p.2) (told_fault c.loop-at.invariant c.loop-at-test.true c.kind_at-k.ensures c.record_pair.ensures c.in_err-record_pair.was)

pub loop-at-preserved : goal.loop-at-preserved
loop-at-preserved c = told_over c.loop-at.invariant c.loop-at-test.true c.kind_at-k.ensures c.record_pair.ensures c.in_ok-record_pair.was c.size_of-at.ensures

pub returns : goal.returns
unfolding records_pair
returns c = walking_stop c.loop-at.invariant c.loop-at-test.false
