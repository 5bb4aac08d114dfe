-- Each public function of crate rounding: what its own contract allows is one answer.
use mathlib.Core.Path.{refl}
use Rattle.promises.specs.Determined.{Determined}
use Rattle.promises.proofs.Equations.{by_equation}
use Rattle.rounding.proofs.coordinate.Kinds as coordinate-kinds
use Rattle.rounding.proofs.coordinate.Reads as coordinate-reads

pub coordinate_determined : Determined 0 coordinate-kinds.ps coordinate-kinds.r coordinate-reads.Pre coordinate-reads.Post
coordinate_determined κs a = by_equation (λ v w. refl)
