-- Each public function of crate route_walks: what its own contract allows is one answer.
use mathlib.Core.Path.{refl, sym, ap, ◌∙◌}
use mathlib.Core.List.{List}
use Prim.Native.Nat.{ℕ}
use Rattle.promises.specs.Determined.{Determined}
use Rattle.promises.proofs.Equations.{by_equation}
use Rattle.route_walks.proofs.stands_in.Kinds as stands-in-kinds
use Rattle.route_walks.proofs.stands_in.Reads as stands-in-reads
use Rattle.route_walks.proofs.put_words.Kinds as put-words-kinds
use Rattle.route_walks.proofs.put_words.Reads as put-words-reads

pub stands_in_determined : Determined 1 stands-in-kinds.ps stands-in-kinds.r stands-in-reads.Pre stands-in-reads.Post
stands_in_determined κs a = by_equation (λ v w. refl)

pub put_words_determined : Determined 2 put-words-kinds.ps put-words-kinds.r put-words-reads.Pre put-words-reads.Post
put_words_determined κs a = (tt, λ x y v w p q. (refl, ap (λ (l : List ℕ). (l, (tt, (tt, tt)))) (p ∙ sym q)))
