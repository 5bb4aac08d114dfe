-- Each public function of crate x1_records: what its own contract allows is one answer.
use mathlib.Core.Path.{refl}
use Rattle.promises.specs.Determined.{Determined}
use Rattle.promises.proofs.Equations.{by_equation}
use Rattle.x1_records.proofs.Track.read.Kinds as track-read-kinds
use Rattle.x1_records.proofs.Track.read.Reads as track-read-reads
use Rattle.x1_records.proofs.Track.points.Kinds as track-points-kinds
use Rattle.x1_records.proofs.Track.points.Reads as track-points-reads
use Rattle.x1_records.proofs.Point.read.Kinds as point-read-kinds
use Rattle.x1_records.proofs.Point.read.Reads as point-read-reads
use Rattle.x1_records.proofs.point_size.Kinds as point-size-kinds
use Rattle.x1_records.proofs.point_size.Reads as point-size-reads
use Rattle.x1_records.proofs.least_length.Kinds as least-length-kinds
use Rattle.x1_records.proofs.least_length.Reads as least-length-reads

pub track_read_determined : Determined 1 track-read-kinds.ps track-read-kinds.r track-read-reads.Pre track-read-reads.Post
track_read_determined κs a = by_equation (λ v w. refl)

pub track_points_determined : Determined 0 track-points-kinds.ps track-points-kinds.r track-points-reads.Pre track-points-reads.Post
track_points_determined κs a = by_equation (λ v w. refl)

pub point_read_determined : Determined 1 point-read-kinds.ps point-read-kinds.r point-read-reads.Pre point-read-reads.Post
point_read_determined κs a = by_equation (λ v w. refl)

pub point_size_determined : Determined 0 point-size-kinds.ps point-size-kinds.r point-size-reads.Pre point-size-reads.Post
point_size_determined κs a = by_equation (λ v w. refl)

pub least_length_determined : Determined 0 least-length-kinds.ps least-length-kinds.r least-length-reads.Pre least-length-reads.Post
least_length_determined κs a = by_equation (λ v w. refl)
