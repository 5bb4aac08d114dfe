-- `route_graph::PlainLinks::onward` meets its contract.
use borrow.Author.Tests.{eq-eqb, ne_eqb}
use Rattle.route_graph.specs.Ways.{onward_of}
use Rattle.route_graph.proofs.PlainLinks.onward.Goals as goal

pub returns-then-self-from : goal.returns-then-self-from
unfolding onward_of
returns-then-self-from c = simp (eq-eqb _ _ c.if-self-from.true)

pub returns-else-self-from : goal.returns-else-self-from
unfolding onward_of
returns-else-self-from c = simp (ne_eqb _ _ c.if-self-from.false)
