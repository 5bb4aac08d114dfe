-- Each public function of crate x2_verdict: what its own contract allows is one answer.
use mathlib.Core.Path.{refl}
use Rattle.promises.specs.Determined.{Determined}
use Rattle.promises.proofs.Equations.{by_equation}
use Rattle.x2_verdict.proofs.first_fault.Kinds as first-fault-kinds
use Rattle.x2_verdict.proofs.first_fault.Reads as first-fault-reads
use Rattle.x2_verdict.proofs.verdict_of.Kinds as verdict-of-kinds
use Rattle.x2_verdict.proofs.verdict_of.Reads as verdict-of-reads
use Rattle.x2_verdict.proofs.record_at.Kinds as record-at-kinds
use Rattle.x2_verdict.proofs.record_at.Reads as record-at-reads
use Rattle.x2_verdict.proofs.header.Kinds as header-kinds
use Rattle.x2_verdict.proofs.header.Reads as header-reads

pub first_fault_determined : Determined 1 first-fault-kinds.ps first-fault-kinds.r first-fault-reads.Pre first-fault-reads.Post
first_fault_determined κs a = by_equation (λ v w. refl)

pub verdict_of_determined : Determined 1 verdict-of-kinds.ps verdict-of-kinds.r verdict-of-reads.Pre verdict-of-reads.Post
verdict_of_determined κs a = by_equation (λ v w. refl)

pub record_at_determined : Determined 1 record-at-kinds.ps record-at-kinds.r record-at-reads.Pre record-at-reads.Post
record_at_determined κs a = by_equation (λ v w. refl)

pub header_determined : Determined 1 header-kinds.ps header-kinds.r header-reads.Pre header-reads.Post
header_determined κs a = by_equation (λ v w. refl)
