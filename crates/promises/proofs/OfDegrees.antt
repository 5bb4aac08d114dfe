-- Each public function of crate degrees: what its own contract allows is one answer.
use mathlib.Core.Path.{refl}
use Rattle.promises.specs.Determined.{Determined}
use Rattle.promises.proofs.Equations.{by_equation}
use Rattle.degrees.proofs.in_degrees.Kinds as in-degrees-kinds
use Rattle.degrees.proofs.in_degrees.Reads as in-degrees-reads
use Rattle.degrees.proofs.bits_of.Kinds as bits-of-kinds
use Rattle.degrees.proofs.bits_of.Reads as bits-of-reads

pub in_degrees_determined : Determined 0 in-degrees-kinds.ps in-degrees-kinds.r in-degrees-reads.Pre in-degrees-reads.Post
in_degrees_determined κs a = by_equation (λ v w. refl)

pub bits_of_determined : Determined 0 bits-of-kinds.ps bits-of-kinds.r bits-of-reads.Pre bits-of-reads.Post
bits_of_determined κs a = by_equation (λ v w. refl)
