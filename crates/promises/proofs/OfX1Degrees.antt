-- Each public function of crate x1_degrees: what its own contract allows is one answer.
use mathlib.Core.Path.{refl}
use Rattle.promises.specs.Determined.{Determined}
use Rattle.promises.proofs.Equations.{by_equation}
use Rattle.x1_degrees.proofs.degrees_at.Kinds as degrees-at-kinds
use Rattle.x1_degrees.proofs.degrees_at.Reads as degrees-at-reads
use Rattle.x1_degrees.proofs.point_degrees.Kinds as point-degrees-kinds
use Rattle.x1_degrees.proofs.point_degrees.Reads as point-degrees-reads
use Rattle.x1_degrees.proofs.coordinate_in.Kinds as coordinate-in-kinds
use Rattle.x1_degrees.proofs.coordinate_in.Reads as coordinate-in-reads
use Rattle.x1_degrees.proofs.degrees_in.Kinds as degrees-in-kinds
use Rattle.x1_degrees.proofs.degrees_in.Reads as degrees-in-reads

pub degrees_at_determined : Determined 1 degrees-at-kinds.ps degrees-at-kinds.r degrees-at-reads.Pre degrees-at-reads.Post
degrees_at_determined κs a = by_equation (λ v w. refl)

pub point_degrees_determined : Determined 1 point-degrees-kinds.ps point-degrees-kinds.r point-degrees-reads.Pre point-degrees-reads.Post
point_degrees_determined κs a = by_equation (λ v w. refl)

pub coordinate_in_determined : Determined 0 coordinate-in-kinds.ps coordinate-in-kinds.r coordinate-in-reads.Pre coordinate-in-reads.Post
coordinate_in_determined κs a = by_equation (λ v w. refl)

pub degrees_in_determined : Determined 0 degrees-in-kinds.ps degrees-in-kinds.r degrees-in-reads.Pre degrees-in-reads.Post
degrees_in_determined κs a = by_equation (λ v w. refl)
