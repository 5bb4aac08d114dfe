-- Each public function of crate route_graph: what its own contract allows is one answer.
use mathlib.Core.Path.{refl}
use Rattle.promises.specs.Determined.{Determined}
use Rattle.promises.proofs.Equations.{by_equation}
use Rattle.route_graph.proofs.PlainLinks.onward.Kinds as plainlinks-onward-kinds
use Rattle.route_graph.proofs.PlainLinks.onward.Reads as plainlinks-onward-reads
use Rattle.route_graph.proofs.Object.edge_link.Kinds as object-edge-link-kinds
use Rattle.route_graph.proofs.Object.edge_link.Reads as object-edge-link-reads
use Rattle.route_graph.proofs.Object.is_boundary.Kinds as object-is-boundary-kinds
use Rattle.route_graph.proofs.Object.is_boundary.Reads as object-is-boundary-reads
use Rattle.route_graph.proofs.Object.link_count.Kinds as object-link-count-kinds
use Rattle.route_graph.proofs.Object.link_count.Reads as object-link-count-reads
use Rattle.route_graph.proofs.Object.link.Kinds as object-link-kinds
use Rattle.route_graph.proofs.Object.link.Reads as object-link-reads
use Rattle.route_graph.proofs.object_at.Kinds as object-at-kinds
use Rattle.route_graph.proofs.object_at.Reads as object-at-reads
use Rattle.route_graph.proofs.ends_of.Kinds as ends-of-kinds
use Rattle.route_graph.proofs.ends_of.Reads as ends-of-reads
use Rattle.route_graph.proofs.kind_in.Kinds as kind-in-kinds
use Rattle.route_graph.proofs.kind_in.Reads as kind-in-reads
use Rattle.route_graph.proofs.view.Kinds as view-kinds
use Rattle.route_graph.proofs.view.Reads as view-reads
use Rattle.route_graph.proofs.object_in.Kinds as object-in-kinds
use Rattle.route_graph.proofs.object_in.Reads as object-in-reads
use Rattle.route_graph.proofs.boundary_at.Kinds as boundary-at-kinds
use Rattle.route_graph.proofs.boundary_at.Reads as boundary-at-reads

pub plainlinks_onward_determined : Determined 0 plainlinks-onward-kinds.ps plainlinks-onward-kinds.r plainlinks-onward-reads.Pre plainlinks-onward-reads.Post
plainlinks_onward_determined κs a = by_equation (λ v w. refl)

pub object_edge_link_determined : Determined 0 object-edge-link-kinds.ps object-edge-link-kinds.r object-edge-link-reads.Pre object-edge-link-reads.Post
object_edge_link_determined κs a = by_equation (λ v w. refl)

pub object_is_boundary_determined : Determined 0 object-is-boundary-kinds.ps object-is-boundary-kinds.r object-is-boundary-reads.Pre object-is-boundary-reads.Post
object_is_boundary_determined κs a = by_equation (λ v w. refl)

pub object_link_count_determined : Determined 0 object-link-count-kinds.ps object-link-count-kinds.r object-link-count-reads.Pre object-link-count-reads.Post
object_link_count_determined κs a = by_equation (λ v w. refl)

pub object_link_determined : Determined 0 object-link-kinds.ps object-link-kinds.r object-link-reads.Pre object-link-reads.Post
object_link_determined κs a = by_equation (λ v w. refl)

pub object_at_determined : Determined 1 object-at-kinds.ps object-at-kinds.r object-at-reads.Pre object-at-reads.Post
object_at_determined κs a = by_equation (λ v w. refl)

pub ends_of_determined : Determined 0 ends-of-kinds.ps ends-of-kinds.r ends-of-reads.Pre ends-of-reads.Post
ends_of_determined κs a = by_equation (λ v w. refl)

pub kind_in_determined : Determined 0 kind-in-kinds.ps kind-in-kinds.r kind-in-reads.Pre kind-in-reads.Post
kind_in_determined κs a = by_equation (λ v w. refl)

pub view_determined : Determined 1 view-kinds.ps view-kinds.r view-reads.Pre view-reads.Post
view_determined κs a = by_equation (λ v w. refl)

pub object_in_determined : Determined 1 object-in-kinds.ps object-in-kinds.r object-in-reads.Pre object-in-reads.Post
object_in_determined κs a = by_equation (λ v w. refl)

pub boundary_at_determined : Determined 0 boundary-at-kinds.ps boundary-at-kinds.r boundary-at-reads.Pre boundary-at-reads.Post
boundary_at_determined κs a = by_equation (λ v w. refl)
