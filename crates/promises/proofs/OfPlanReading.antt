-- Each public function of crate plan_reading: what its own contract allows is one answer.
use mathlib.Core.Path.{sym, ap, ◌∙◌}
use mathlib.Core.List.{List}
use Prim.Native.Nat.{ℕ}
use Rattle.promises.specs.Determined.{Determined}
use Rattle.plan_reading.proofs.take.Kinds as take-kinds
use Rattle.plan_reading.proofs.take.Reads as take-reads

pub take_determined : Determined 2 take-kinds.ps take-kinds.r take-reads.Pre take-reads.Post
take_determined κs a = (tt, λ x y v w p q. (p.0 ∙ sym q.0, ap (λ (l : List ℕ). (tt, (tt, (l, tt)))) (p.1 ∙ sym q.1)))
