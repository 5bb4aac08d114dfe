-- `route_graph::ends_of` meets its contract.
use borrow.Author.Rules.{rules}
use Rattle.route_graph.specs.inner.Ends.{ends_of}
use Rattle.route_graph.proofs.regions.ends_of.Goals as goal

pub returns : goal.returns
unfolding ends_of
returns c = search rules
