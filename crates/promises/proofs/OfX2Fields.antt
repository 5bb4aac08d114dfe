-- Each public function of crate x2_fields: what its own contract allows is one answer.
use mathlib.Core.Path.{refl}
use Rattle.promises.specs.Determined.{Determined}
use Rattle.promises.proofs.Equations.{by_equation}
use Rattle.x2_fields.proofs.agreement_obeys.Kinds as agreement-obeys-kinds
use Rattle.x2_fields.proofs.agreement_obeys.Reads as agreement-obeys-reads
use Rattle.x2_fields.proofs.check_header.Kinds as check-header-kinds
use Rattle.x2_fields.proofs.check_header.Reads as check-header-reads
use Rattle.x2_fields.proofs.check_agreement.Kinds as check-agreement-kinds
use Rattle.x2_fields.proofs.check_agreement.Reads as check-agreement-reads
use Rattle.x2_fields.proofs.check_fields.Kinds as check-fields-kinds
use Rattle.x2_fields.proofs.check_fields.Reads as check-fields-reads

pub check_agreement_determined : Determined 1 check-agreement-kinds.ps check-agreement-kinds.r check-agreement-reads.Pre check-agreement-reads.Post
check_agreement_determined κs a = by_equation (λ v w. refl)

pub check_fields_determined : Determined 1 check-fields-kinds.ps check-fields-kinds.r check-fields-reads.Pre check-fields-reads.Post
check_fields_determined κs a = by_equation (λ v w. refl)

pub agreement_obeys_determined : Determined 1 agreement-obeys-kinds.ps agreement-obeys-kinds.r agreement-obeys-reads.Pre agreement-obeys-reads.Post
agreement_obeys_determined κs a = by_equation (λ v w. refl)

pub check_header_determined : Determined 1 check-header-kinds.ps check-header-kinds.r check-header-reads.Pre check-header-reads.Post
check_header_determined κs a = by_equation (λ v w. refl)
