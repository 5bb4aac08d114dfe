-- `x2_fields::agreement::records_agree` meets its contract: a walk over the records that tests each of them, with the one before it.
use Rattle.x2_layout.proofs.Before.{following_start, following_stop, following_over, following_fault}
use Rattle.x2_fields.proofs.agreement.records_agree.Goals as goal

pub loop-at-init : goal.loop-at-init
loop-at-init c = following_start _ _ _

pub returns-then-not-agreement_obeys : goal.returns-then-not-agreement_obeys
returns-then-not-agreement_obeys c = following_fault c.loop-at.invariant c.loop-at-test.true c.kind_at-k.ensures c.agreement_obeys.ensures c.if-not-agreement_obeys.true c.kind_agrees.ensures

pub loop-at-preserved : goal.loop-at-preserved
loop-at-preserved c = following_over c.loop-at.invariant c.loop-at-test.true c.kind_at-k.ensures c.agreement_obeys.ensures c.if-not-agreement_obeys.false c.size_of-at.ensures

pub returns : goal.returns
returns c = following_stop c.loop-at.invariant c.loop-at-test.false
