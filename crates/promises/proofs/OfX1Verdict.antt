-- Each public function of crate x1_verdict: what its own contract allows is one answer.
use mathlib.Core.Path.{refl}
use Rattle.promises.specs.Determined.{Determined}
use Rattle.promises.proofs.Equations.{by_equation, by_part}
use Rattle.x1_verdict.proofs.sum_of.Kinds as sum-of-kinds
use Rattle.x1_verdict.proofs.sum_of.Reads as sum-of-reads
use Rattle.x1_verdict.proofs.verdicts.first_fault.Kinds as first-fault-kinds
use Rattle.x1_verdict.proofs.verdicts.first_fault.Reads as first-fault-reads
use Rattle.x1_verdict.proofs.verdicts.verdict_of.Kinds as verdict-of-kinds
use Rattle.x1_verdict.proofs.verdicts.verdict_of.Reads as verdict-of-reads
use Rattle.x1_verdict.proofs.verdicts.version_1_verdict.Kinds as version-1-verdict-kinds
use Rattle.x1_verdict.proofs.verdicts.version_1_verdict.Reads as version-1-verdict-reads

pub sum_of_determined : Determined 1 sum-of-kinds.ps sum-of-kinds.r sum-of-reads.Pre sum-of-reads.Post
sum_of_determined κs a = by_part (λ x p. p.is) (λ v w. refl)

pub first_fault_determined : Determined 1 first-fault-kinds.ps first-fault-kinds.r first-fault-reads.Pre first-fault-reads.Post
first_fault_determined κs a = by_equation (λ v w. refl)

pub verdict_of_determined : Determined 1 verdict-of-kinds.ps verdict-of-kinds.r verdict-of-reads.Pre verdict-of-reads.Post
verdict_of_determined κs a = by_equation (λ v w. refl)

pub version_1_verdict_determined : Determined 1 version-1-verdict-kinds.ps version-1-verdict-kinds.r version-1-verdict-reads.Pre version-1-verdict-reads.Post
version_1_verdict_determined κs a = by_equation (λ v w. refl)
