-- `route_graph::object_in` meets its contract.
use Rattle.route_graph.specs.inner.Ends.{object_in}
use Rattle.route_graph.proofs.regions.object_in.Goals as goal

pub returns : goal.returns
unfolding object_in
returns c = simp (c.record_at.ensures, c.kind_in.ensures, c.from.ensures)
