-- `x2_fields::fields::records_fields` meets its contract: a walk over the records that tests each of them.
use Prim.Native.Nat.{◌-◌}
use Rattle.x2_layout.specs.inner.Walking.{Walking}
use Rattle.x2_kinds.specs.KindFields.{kind_fields}
use Rattle.x2_fields.proofs.fields.records_fields.Given as goal

abbrev pub invariant-loop-at : goal.invariant-loop-at
invariant-loop-at l = Walking l.f l.l (kind_fields l.f) l.at

abbrev pub decreases-loop-at : goal.decreases-loop-at
decreases-loop-at l = l.l.end - l.at
