-- Each public function of crate plan_lines: what its own contract allows is one answer.
use mathlib.Core.Path.{refl, sym, ap, ◌∙◌}
use mathlib.Core.List.{List}
use Prim.Native.Nat.{ℕ}
use Rattle.promises.specs.Determined.{Determined}
use Rattle.plan_lines.proofs.length_before.Kinds as length-before-kinds
use Rattle.plan_lines.proofs.length_before.Reads as length-before-reads
use Rattle.plan_lines.proofs.read.Kinds as read-kinds
use Rattle.plan_lines.proofs.read.Reads as read-reads

pub length_before_determined : Determined 1 length-before-kinds.ps length-before-kinds.r length-before-reads.Pre length-before-reads.Post
length_before_determined κs a = (tt, λ x y v w p q. (p.0 ∙ sym q.0, refl))

pub read_determined : Determined 2 read-kinds.ps read-kinds.r read-reads.Pre read-reads.Post
read_determined κs a = (tt, λ x y v w p q. (p.0 ∙ sym q.0, ap (λ (l : List ℕ). (tt, (l, tt))) (p.1 ∙ sym q.1)))
