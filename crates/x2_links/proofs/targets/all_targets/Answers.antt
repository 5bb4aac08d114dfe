-- `x2_links::targets::all_targets` meets its contract: a walk over the records that tests each of them.
use Rattle.x2_layout.proofs.Walking.{walking_over, walking_fault, walking_stop}
use Rattle.x2_links.specs.Links.{target_facts}
use Rattle.x2_links.proofs.targets.all_targets.Goals as goal

pub returns-then-not-record_targets_obey : goal.returns-then-not-record_targets_obey
unfolding target_facts
returns-then-not-record_targets_obey c = walking_fault c.loop-at.invariant c.loop-at-test.true c.kind_at-k.ensures
    c.record_targets_obey.ensures c.if-not-record_targets_obey.true c.record_targets.ensures

pub loop-at-preserved : goal.loop-at-preserved
loop-at-preserved c = walking_over c.loop-at.invariant c.loop-at-test.true c.kind_at-k.ensures
    c.record_targets_obey.ensures c.if-not-record_targets_obey.false c.size_of-at.ensures

pub returns : goal.returns
unfolding target_facts
returns c = walking_stop c.loop-at.invariant c.loop-at-test.false
