-- Each public function of crate x1_questions: what its own contract allows is one answer.
use mathlib.Core.Path.{refl}
use Rattle.promises.specs.Determined.{Determined}
use Rattle.promises.proofs.Equations.{by_equation}
use Rattle.x1_questions.proofs.track.Kinds as track-kinds
use Rattle.x1_questions.proofs.track.Reads as track-reads
use Rattle.x1_questions.proofs.point.Kinds as point-kinds
use Rattle.x1_questions.proofs.point.Reads as point-reads
use Rattle.x1_questions.proofs.point_coordinate.Kinds as point-coordinate-kinds
use Rattle.x1_questions.proofs.point_coordinate.Reads as point-coordinate-reads
use Rattle.x1_questions.proofs.coordinate.Kinds as coordinate-kinds
use Rattle.x1_questions.proofs.coordinate.Reads as coordinate-reads
use Rattle.x1_questions.proofs.header.Kinds as header-kinds
use Rattle.x1_questions.proofs.header.Reads as header-reads

pub track_determined : Determined 1 track-kinds.ps track-kinds.r track-reads.Pre track-reads.Post
track_determined κs a = by_equation (λ v w. refl)

pub point_determined : Determined 1 point-kinds.ps point-kinds.r point-reads.Pre point-reads.Post
point_determined κs a = by_equation (λ v w. refl)

pub point_coordinate_determined : Determined 1 point-coordinate-kinds.ps point-coordinate-kinds.r point-coordinate-reads.Pre point-coordinate-reads.Post
point_coordinate_determined κs a = by_equation (λ v w. refl)

pub coordinate_determined : Determined 1 coordinate-kinds.ps coordinate-kinds.r coordinate-reads.Pre coordinate-reads.Post
coordinate_determined κs a = by_equation (λ v w. refl)

pub header_determined : Determined 1 header-kinds.ps header-kinds.r header-reads.Pre header-reads.Post
header_determined κs a = by_equation (λ v w. refl)
