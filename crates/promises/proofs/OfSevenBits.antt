-- Each public function of crate seven_bits: what its own contract allows is one answer.
use mathlib.Core.Path.{refl, sym, ap, ◌∙◌}
use mathlib.Core.List.{List}
use Prim.Native.Nat.{ℕ}
use Rattle.promises.specs.Determined.{Determined}
use Rattle.promises.proofs.Equations.{by_equation}
use Rattle.seven_bits.proofs.number_at.Kinds as number-at-kinds
use Rattle.seven_bits.proofs.number_at.Reads as number-at-reads
use Rattle.seven_bits.proofs.put_number.Kinds as put-number-kinds
use Rattle.seven_bits.proofs.put_number.Reads as put-number-reads

pub number_at_determined : Determined 1 number-at-kinds.ps number-at-kinds.r number-at-reads.Pre number-at-reads.Post
number_at_determined κs a = by_equation (λ v w. refl)

pub put_number_determined : Determined 1 put-number-kinds.ps put-number-kinds.r put-number-reads.Pre put-number-reads.Post
put_number_determined κs a = (tt, λ x y v w p q. (p.0 ∙ sym q.0, ap (λ (l : List ℕ). (l, (tt, (tt, tt)))) (p.1 ∙ sym q.1)))
