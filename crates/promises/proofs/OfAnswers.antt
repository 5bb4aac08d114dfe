-- Each public function of crate answers: what its own contract allows is one answer.
use mathlib.Core.Path.{refl}
use Rattle.promises.specs.Determined.{Determined}
use Rattle.promises.proofs.Equations.{by_equation}
use Rattle.answers.proofs.x1.Kinds as x1-kinds
use Rattle.answers.proofs.x1.Reads as x1-reads
use Rattle.answers.proofs.x1_version_1.Kinds as x1-version-1-kinds
use Rattle.answers.proofs.x1_version_1.Reads as x1-version-1-reads
use Rattle.answers.proofs.track.Kinds as track-kinds
use Rattle.answers.proofs.track.Reads as track-reads
use Rattle.answers.proofs.point.Kinds as point-kinds
use Rattle.answers.proofs.point.Reads as point-reads
use Rattle.answers.proofs.coordinate.Kinds as coordinate-kinds
use Rattle.answers.proofs.coordinate.Reads as coordinate-reads
use Rattle.answers.proofs.degrees.Kinds as degrees-kinds
use Rattle.answers.proofs.degrees.Reads as degrees-reads
use Rattle.answers.proofs.point_degrees.Kinds as point-degrees-kinds
use Rattle.answers.proofs.point_degrees.Reads as point-degrees-reads
use Rattle.answers.proofs.pair.Kinds as pair-kinds
use Rattle.answers.proofs.pair.Reads as Pair-reads
use Rattle.answers.proofs.x2.Kinds as x2-kinds
use Rattle.answers.proofs.x2.Reads as x2-reads
use Rattle.answers.proofs.record.Kinds as record-kinds
use Rattle.answers.proofs.record.Reads as record-reads
use Rattle.answers.proofs.header1.Kinds as header1-kinds
use Rattle.answers.proofs.header1.Reads as header1-reads
use Rattle.answers.proofs.header2.Kinds as header2-kinds
use Rattle.answers.proofs.header2.Reads as header2-reads
use Rattle.answers.proofs.ahead.Kinds as ahead-kinds
use Rattle.answers.proofs.ahead.Reads as ahead-reads

pub x1_determined : Determined 1 x1-kinds.ps x1-kinds.r x1-reads.Pre x1-reads.Post
x1_determined κs a = by_equation (λ v w. refl)

pub x1_version_1_determined : Determined 1 x1-version-1-kinds.ps x1-version-1-kinds.r x1-version-1-reads.Pre x1-version-1-reads.Post
x1_version_1_determined κs a = by_equation (λ v w. refl)

pub track_determined : Determined 1 track-kinds.ps track-kinds.r track-reads.Pre track-reads.Post
track_determined κs a = by_equation (λ v w. refl)

pub point_determined : Determined 1 point-kinds.ps point-kinds.r point-reads.Pre point-reads.Post
point_determined κs a = by_equation (λ v w. refl)

pub coordinate_determined : Determined 1 coordinate-kinds.ps coordinate-kinds.r coordinate-reads.Pre coordinate-reads.Post
coordinate_determined κs a = by_equation (λ v w. refl)

pub degrees_determined : Determined 1 degrees-kinds.ps degrees-kinds.r degrees-reads.Pre degrees-reads.Post
degrees_determined κs a = by_equation (λ v w. refl)

pub point_degrees_determined : Determined 1 point-degrees-kinds.ps point-degrees-kinds.r point-degrees-reads.Pre point-degrees-reads.Post
point_degrees_determined κs a = by_equation (λ v w. refl)

pub pair_determined : Determined 2 pair-kinds.ps pair-kinds.r Pair-reads.Pre Pair-reads.Post
pair_determined κs a = by_equation (λ v w. refl)

pub x2_determined : Determined 1 x2-kinds.ps x2-kinds.r x2-reads.Pre x2-reads.Post
x2_determined κs a = by_equation (λ v w. refl)

pub record_determined : Determined 1 record-kinds.ps record-kinds.r record-reads.Pre record-reads.Post
record_determined κs a = by_equation (λ v w. refl)

pub header1_determined : Determined 1 header1-kinds.ps header1-kinds.r header1-reads.Pre header1-reads.Post
header1_determined κs a = by_equation (λ v w. refl)

pub header2_determined : Determined 1 header2-kinds.ps header2-kinds.r header2-reads.Pre header2-reads.Post
header2_determined κs a = by_equation (λ v w. refl)

pub ahead_determined : Determined 3 ahead-kinds.ps ahead-kinds.r ahead-reads.Pre ahead-reads.Post
ahead_determined κs a = by_equation (λ v w. refl)
