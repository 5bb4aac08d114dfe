-- `route_graph::object_at` meets its contract.
use Rattle.route_graph.specs.Objects.{object_at}
use Rattle.route_graph.proofs.object_at.Goals as goal

pub returns : goal.returns
unfolding object_at
returns c = simp (c.record_at.ensures, c.kind_at.ensures, c.from.ensures)
