-- `x2_fields::agreement::records_agree` meets its contract: a walk over the records that tests each of them, with the one before it.
use Prim.Native.Nat.{◌-◌}
use Rattle.x2_layout.specs.inner.Walking.{Following}
use Rattle.x2_fields.specs.Agreement.{kind_agrees}
use Rattle.x2_fields.proofs.agreement.records_agree.Given as goal

abbrev pub invariant-loop-at : goal.invariant-loop-at
invariant-loop-at l = Following l.f l.l (kind_agrees l.f l.l) l.before l.at

abbrev pub decreases-loop-at : goal.decreases-loop-at
decreases-loop-at l = l.l.end - l.at
