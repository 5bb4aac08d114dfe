-- Each public function of crate route_question: what its own contract allows is one answer.
use mathlib.Core.Path.{sym, ap, ◌∙◌}
use mathlib.Core.List.{List}
use Prim.Native.Nat.{ℕ}
use Rattle.promises.specs.Determined.{Determined}
use Rattle.route_question.proofs.routes.Kinds as routes-kinds
use Rattle.route_question.proofs.routes.Reads as routes-reads
use Rattle.route_question.proofs.routes_flat.Kinds as routes-flat-kinds
use Rattle.route_question.proofs.routes_flat.Reads as routes-flat-reads
use Rattle.route_question.proofs.routes_by.Kinds as routes-by-kinds
use Rattle.route_question.proofs.routes_by.Reads as routes-by-reads

pub routes_determined : Determined 2 routes-kinds.ps routes-kinds.r routes-reads.Pre routes-reads.Post
routes_determined κs a = (tt, λ x y v w p q. (p.0 ∙ sym q.0, ap (λ (l : List ℕ). (tt, (tt, (tt, (tt, (l, tt)))))) (p.1 ∙ sym q.1)))

pub routes_flat_determined : Determined 2 routes-flat-kinds.ps routes-flat-kinds.r routes-flat-reads.Pre routes-flat-reads.Post
routes_flat_determined κs a = (tt, λ x y v w p q. (p.0 ∙ sym q.0, ap (λ (l : List ℕ). (tt, (tt, (tt, (tt, (l, tt)))))) (p.1 ∙ sym q.1)))

pub routes_by_determined : Determined 2 routes-by-kinds.ps routes-by-kinds.r routes-by-reads.Pre routes-by-reads.Post
routes_by_determined κs a = (tt, λ x y v w p q. (p.0 ∙ sym q.0, ap (λ (l : List ℕ). (tt, (tt, (tt, (tt, (tt, (l, tt))))))) (p.1 ∙ sym q.1)))
