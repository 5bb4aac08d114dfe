-- Each public function of crate plan_question: what its own contract allows is one answer.
use mathlib.Core.Path.{sym, ap, ◌∙◌}
use mathlib.Core.List.{List}
use Prim.Native.Nat.{ℕ}
use Rattle.promises.specs.Determined.{Determined}
use Rattle.plan_question.proofs.compare.Kinds as compare-kinds
use Rattle.plan_question.proofs.compare.Reads as compare-reads

pub compare_determined : Determined 3 compare-kinds.ps compare-kinds.r compare-reads.Pre compare-reads.Post
compare_determined κs a = (tt, λ x y v w p q. (p.0 ∙ sym q.0, ap (λ (l : List ℕ). (tt, (tt, (tt, (tt, (tt, (tt, (l, tt)))))))) (p.1 ∙ sym q.1)))
