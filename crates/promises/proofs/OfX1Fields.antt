-- Each public function of crate x1_fields: what its own contract allows is one answer.
use mathlib.Core.Path.{refl}
use Rattle.promises.specs.Determined.{Determined}
use Rattle.promises.proofs.Equations.{by_equation}
use Rattle.x1_fields.proofs.header_fields.Kinds as header-fields-kinds
use Rattle.x1_fields.proofs.header_fields.Reads as header-fields-reads
use Rattle.x1_fields.proofs.entry_obeys.Kinds as entry-obeys-kinds
use Rattle.x1_fields.proofs.entry_obeys.Reads as entry-obeys-reads
use Rattle.x1_fields.proofs.entry_fields.Kinds as entry-fields-kinds
use Rattle.x1_fields.proofs.entry_fields.Reads as entry-fields-reads
use Rattle.x1_fields.proofs.point_obeys.Kinds as point-obeys-kinds
use Rattle.x1_fields.proofs.point_obeys.Reads as point-obeys-reads
use Rattle.x1_fields.proofs.point_fields.Kinds as point-fields-kinds
use Rattle.x1_fields.proofs.point_fields.Reads as point-fields-reads

pub header_fields_determined : Determined 1 header-fields-kinds.ps header-fields-kinds.r header-fields-reads.Pre header-fields-reads.Post
header_fields_determined κs a = by_equation (λ v w. refl)

pub entry_obeys_determined : Determined 1 entry-obeys-kinds.ps entry-obeys-kinds.r entry-obeys-reads.Pre entry-obeys-reads.Post
entry_obeys_determined κs a = by_equation (λ v w. refl)

pub entry_fields_determined : Determined 1 entry-fields-kinds.ps entry-fields-kinds.r entry-fields-reads.Pre entry-fields-reads.Post
entry_fields_determined κs a = by_equation (λ v w. refl)

pub point_obeys_determined : Determined 1 point-obeys-kinds.ps point-obeys-kinds.r point-obeys-reads.Pre point-obeys-reads.Post
point_obeys_determined κs a = by_equation (λ v w. refl)

pub point_fields_determined : Determined 1 point-fields-kinds.ps point-fields-kinds.r point-fields-reads.Pre point-fields-reads.Post
point_fields_determined κs a = by_equation (λ v w. refl)
