-- `x2_fields::fields::records_fields` meets its contract: a walk over the records that tests each of them.
use mathlib.Core.Path.{refl}
use Rattle.x2_layout.proofs.Walking.{walking_stop, walking_over, walking_fault}
use Rattle.x2_fields.proofs.fields.records_fields.Goals as goal

pub loop-at-init : goal.loop-at-init
loop-at-init c = record { so = refl }

pub returns-then-not-kind_obeys : goal.returns-then-not-kind_obeys
returns-then-not-kind_obeys c = walking_fault c.loop-at.invariant c.loop-at-test.true c.kind_at-k.ensures c.kind_obeys.ensures c.if-not-kind_obeys.true c.kind_fields.ensures

pub loop-at-preserved : goal.loop-at-preserved
loop-at-preserved c = walking_over c.loop-at.invariant c.loop-at-test.true c.kind_at-k.ensures c.kind_obeys.ensures c.if-not-kind_obeys.false c.size_of-at.ensures

pub returns : goal.returns
returns c = walking_stop c.loop-at.invariant c.loop-at-test.false
