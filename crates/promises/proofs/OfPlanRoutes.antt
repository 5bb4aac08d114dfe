-- Each public function of crate plan_routes: what its own contract allows is one answer.
use mathlib.Core.Path.{refl}
use Rattle.promises.specs.Determined.{Determined}
use Rattle.promises.proofs.Equations.{by_equation}
use Rattle.plan_routes.proofs.route_end.Kinds as route-end-kinds
use Rattle.plan_routes.proofs.route_end.Reads as route-end-reads
use Rattle.plan_routes.proofs.stands.Kinds as stands-kinds
use Rattle.plan_routes.proofs.stands.Reads as stands-reads
use Rattle.plan_routes.proofs.is_apart.Kinds as is-apart-kinds
use Rattle.plan_routes.proofs.is_apart.Reads as is-apart-reads
use Rattle.plan_routes.proofs.apart.Kinds as apart-kinds
use Rattle.plan_routes.proofs.apart.Reads as apart-reads

pub route_end_determined : Determined 1 route-end-kinds.ps route-end-kinds.r route-end-reads.Pre route-end-reads.Post
route_end_determined κs a = by_equation (λ v w. refl)

pub stands_determined : Determined 2 stands-kinds.ps stands-kinds.r stands-reads.Pre stands-reads.Post
stands_determined κs a = by_equation (λ v w. refl)

pub is_apart_determined : Determined 2 is-apart-kinds.ps is-apart-kinds.r is-apart-reads.Pre is-apart-reads.Post
is_apart_determined κs a = by_equation (λ v w. refl)

pub apart_determined : Determined 2 apart-kinds.ps apart-kinds.r apart-reads.Pre apart-reads.Post
apart_determined κs a = by_equation (λ v w. refl)
