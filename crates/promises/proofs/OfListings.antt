-- Each public function of crate listings: what its own contract allows is one answer.
use mathlib.Core.Path.{refl}
use Rattle.promises.specs.Determined.{Determined}
use Rattle.promises.proofs.Equations.{by_equation}
use Rattle.listings.proofs.routes.Kinds as routes-kinds
use Rattle.listings.proofs.routes.Reads as routes-reads
use Rattle.listings.proofs.list.Kinds as list-kinds
use Rattle.listings.proofs.list.Reads as list-reads

pub routes_determined : Determined 1 routes-kinds.ps routes-kinds.r routes-reads.Pre routes-reads.Post
routes_determined κs a = by_equation (λ v w. refl)

pub list_determined : Determined 1 list-kinds.ps list-kinds.r list-reads.Pre list-reads.Post
list_determined κs a = by_equation (λ v w. refl)
