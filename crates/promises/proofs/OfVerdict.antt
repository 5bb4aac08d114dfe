-- Each public function of crate verdict: what its own contract allows is one answer.
use mathlib.Core.Path.{refl}
use Rattle.promises.specs.Determined.{Determined}
use Rattle.promises.proofs.Equations.{by_equation}
use Rattle.verdict.proofs.Reason.number.Kinds as reason-number-kinds
use Rattle.verdict.proofs.Reason.number.Reads as reason-number-reads
use Rattle.verdict.proofs.File.number.Kinds as file-number-kinds
use Rattle.verdict.proofs.File.number.Reads as file-number-reads
use Rattle.verdict.proofs.refusal.Kinds as refusal-kinds
use Rattle.verdict.proofs.refusal.Reads as refusal-reads
use Rattle.verdict.proofs.Fault.number.Kinds as fault-number-kinds
use Rattle.verdict.proofs.Fault.number.Reads as fault-number-reads
use Rattle.verdict.proofs.answer_number.Kinds as answer-number-kinds
use Rattle.verdict.proofs.answer_number.Reads as answer-number-reads
use Rattle.verdict.proofs.answer_place.Kinds as answer-place-kinds
use Rattle.verdict.proofs.answer_place.Reads as answer-place-reads
use Rattle.verdict.proofs.pair_number.Kinds as pair-number-kinds
use Rattle.verdict.proofs.pair_number.Reads as pair-number-reads
use Rattle.verdict.proofs.pair_place.Kinds as pair-place-kinds
use Rattle.verdict.proofs.pair_place.Reads as pair-place-reads
use Rattle.verdict.proofs.pair_file.Kinds as pair-file-kinds
use Rattle.verdict.proofs.pair_file.Reads as pair-file-reads
use Rattle.verdict.proofs.fault_in.Kinds as fault-in-kinds
use Rattle.verdict.proofs.fault_in.Reads as fault-in-reads
use Rattle.verdict.proofs.fact.Kinds as fact-kinds
use Rattle.verdict.proofs.fact.Reads as fact-reads
use Rattle.verdict.proofs.FaultFromMark.from.Kinds as faultfrommark-from-kinds
use Rattle.verdict.proofs.FaultFromMark.from.Reads as faultfrommark-from-reads
use Rattle.verdict.proofs.PairFaultFromMark.from.Kinds as pairfaultfrommark-from-kinds
use Rattle.verdict.proofs.PairFaultFromMark.from.Reads as pairfaultfrommark-from-reads

pub reason_number_determined : Determined 0 reason-number-kinds.ps reason-number-kinds.r reason-number-reads.Pre reason-number-reads.Post
reason_number_determined κs a = by_equation (λ v w. refl)

pub file_number_determined : Determined 0 file-number-kinds.ps file-number-kinds.r file-number-reads.Pre file-number-reads.Post
file_number_determined κs a = by_equation (λ v w. refl)

pub refusal_determined : Determined 0 refusal-kinds.ps refusal-kinds.r refusal-reads.Pre refusal-reads.Post
refusal_determined κs a = by_equation (λ v w. refl)

pub fault_number_determined : Determined 0 fault-number-kinds.ps fault-number-kinds.r fault-number-reads.Pre fault-number-reads.Post
fault_number_determined κs a = by_equation (λ v w. refl)

pub answer_number_determined : Determined 0 answer-number-kinds.ps answer-number-kinds.r answer-number-reads.Pre answer-number-reads.Post
answer_number_determined κs a = by_equation (λ v w. refl)

pub answer_place_determined : Determined 0 answer-place-kinds.ps answer-place-kinds.r answer-place-reads.Pre answer-place-reads.Post
answer_place_determined κs a = by_equation (λ v w. refl)

pub pair_number_determined : Determined 0 pair-number-kinds.ps pair-number-kinds.r pair-number-reads.Pre pair-number-reads.Post
pair_number_determined κs a = by_equation (λ v w. refl)

pub pair_place_determined : Determined 0 pair-place-kinds.ps pair-place-kinds.r pair-place-reads.Pre pair-place-reads.Post
pair_place_determined κs a = by_equation (λ v w. refl)

pub pair_file_determined : Determined 0 pair-file-kinds.ps pair-file-kinds.r pair-file-reads.Pre pair-file-reads.Post
pair_file_determined κs a = by_equation (λ v w. refl)

pub fault_in_determined : Determined 0 fault-in-kinds.ps fault-in-kinds.r fault-in-reads.Pre fault-in-reads.Post
fault_in_determined κs a = by_equation (λ v w. refl)

pub fact_determined : Determined 0 fact-kinds.ps fact-kinds.r fact-reads.Pre fact-reads.Post
fact_determined κs a = by_equation (λ v w. refl)

pub faultfrommark_from_determined : Determined 0 faultfrommark-from-kinds.ps faultfrommark-from-kinds.r faultfrommark-from-reads.Pre faultfrommark-from-reads.Post
faultfrommark_from_determined κs a = by_equation (λ v w. refl)

pub pairfaultfrommark_from_determined : Determined 0 pairfaultfrommark-from-kinds.ps pairfaultfrommark-from-kinds.r pairfaultfrommark-from-reads.Pre pairfaultfrommark-from-reads.Post
pairfaultfrommark_from_determined κs a = by_equation (λ v w. refl)
