-- Each public function of crate decimal: what its own contract allows is one answer.
use mathlib.Core.Path.{refl}
use Rattle.promises.specs.Determined.{Determined}
use Rattle.promises.proofs.Equations.{by_equation}
use Rattle.decimal.proofs.number_in.Kinds as number-in-kinds
use Rattle.decimal.proofs.number_in.Reads as number-in-reads

pub number_in_determined : Determined 1 number-in-kinds.ps number-in-kinds.r number-in-reads.Pre number-in-reads.Post
number_in_determined κs a = by_equation (λ v w. refl)
