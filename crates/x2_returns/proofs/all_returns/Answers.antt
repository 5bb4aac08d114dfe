-- `x2_returns::all_returns` meets its contract: a walk over the records that tests each of them, with the one before it.
use Rattle.x2_links.specs.Links.{return_facts}
use Rattle.x2_layout.proofs.Before.{following_start, following_over, following_fault, following_stop}
use Rattle.x2_returns.proofs.all_returns.Goals as goal

pub loop-at-init : goal.loop-at-init
loop-at-init c = following_start _ _ _

pub returns-then-not-record_returns_obey : goal.returns-then-not-record_returns_obey
unfolding return_facts
returns-then-not-record_returns_obey c = following_fault c.loop-at.invariant c.loop-at-test.true c.kind_at-k.ensures
    c.record_returns_obey.ensures c.if-not-record_returns_obey.true c.record_returns.ensures

pub loop-at-preserved : goal.loop-at-preserved
loop-at-preserved c = following_over c.loop-at.invariant c.loop-at-test.true c.kind_at-k.ensures
    c.record_returns_obey.ensures c.if-not-record_returns_obey.false c.size_of-at.ensures

pub returns : goal.returns
unfolding return_facts
returns c = following_stop c.loop-at.invariant c.loop-at-test.false
