-- Each public function of crate route_lister: what its own contract allows is one answer.
use mathlib.Core.Path.{refl, sym, ap, ◌∙◌}
use mathlib.Core.List.{List}
use Prim.Native.Nat.{ℕ}
use Rattle.promises.specs.Determined.{Determined}
use Rattle.promises.proofs.Equations.{by_equation}
use Rattle.route_lister.proofs.number.Kinds as number-kinds
use Rattle.route_lister.proofs.number.Reads as number-reads
use Rattle.route_lister.proofs.place.Kinds as place-kinds
use Rattle.route_lister.proofs.place.Reads as place-reads
use Rattle.route_lister.proofs.list.Kinds as list-kinds
use Rattle.route_lister.proofs.list.Reads as list-reads
use Rattle.route_lister.proofs.list_flat.Kinds as list-flat-kinds
use Rattle.route_lister.proofs.list_flat.Reads as list-flat-reads

pub number_determined : Determined 0 number-kinds.ps number-kinds.r number-reads.Pre number-reads.Post
number_determined κs a = by_equation (λ v w. refl)

pub place_determined : Determined 0 place-kinds.ps place-kinds.r place-reads.Pre place-reads.Post
place_determined κs a = by_equation (λ v w. refl)

pub list_determined : Determined 2 list-kinds.ps list-kinds.r list-reads.Pre list-reads.Post
list_determined κs a = (tt, λ x y v w p q. (p.0 ∙ sym q.0, ap (λ (l : List ℕ). (tt, (tt, (tt, (tt, (tt, (l, tt))))))) (p.1 ∙ sym q.1)))

pub list_flat_determined : Determined 2 list-flat-kinds.ps list-flat-kinds.r list-flat-reads.Pre list-flat-reads.Post
list_flat_determined κs a = (tt, λ x y v w p q. (p.0 ∙ sym q.0, ap (λ (l : List ℕ). (tt, (tt, (tt, (tt, (tt, (l, tt))))))) (p.1 ∙ sym q.1)))
