-- `x2_verdict::record_at` meets its contract.
use native.Mathlib.Omega.{arith}
use Rattle.verdict.proofs.Questions.{own_fault}
use Rattle.std.specs.Prelude.{Err}
use Rattle.x2_verdict.specs.Questions.{record_of}
use Rattle.x2_verdict.proofs.Questions.{accepted_regions, accepted_bounded, no_record, start_small, record_there}
use Rattle.x2_verdict.proofs.record_at.Goals as goal

pub returns-in_default : goal.returns-in_default
unfolding record_of
returns-in_default c = own_fault Err _ _ _ c.verdict_of-v.ensures c.unwrap_err.ensures _

pub starts_record-requires : goal.starts_record-requires
starts_record-requires c = accepted_regions _ 0 _ c.verdict_of-v.ensures c.in-Ok.is _ c.layout_of-l.ensures.value

pub returns-then-not-starts_record : goal.returns-then-not-starts_record
returns-then-not-starts_record c = no_record _ _ _ c.verdict_of-v.ensures c.in-Ok.is _ c.layout_of-l.ensures.value _ c.starts_record.ensures c.if-not-starts_record.true c.refusal.ensures

pub overflow_cast-offset : goal.overflow_cast-offset
overflow_cast-offset c = let a = c.args in
    let v = c.verdict_of-v.ensures in
    let e = c.in-Ok.is in
    let i = c.layout_of-l.ensures.value in
    let b = accepted_bounded a.f.now 0 _ v e _ i in
    let h = start_small a.f.now a.offset _ v e _ i _ c.starts_record.ensures c.if-not-starts_record.false (accepted_regions a.f.now 0 _ v e _ i) b.end in
    omega arith

pub returns : goal.returns
returns c = record_there _ _ _ c.verdict_of-v.ensures c.in-Ok.is _ c.layout_of-l.ensures.value _ c.starts_record.ensures c.if-not-starts_record.false _ c.kind_at-k.ensures _ c.read-r.ensures
