-- `route_graph::record_at` meets its contract.
use Rattle.route_graph.specs.Objects.{view_at}
use Rattle.route_graph.proofs.record_at.Goals as goal

pub returns : goal.returns
unfolding view_at
returns c = simp (c.view.ensures, c.links.ensures, c.from-at.ensures)
