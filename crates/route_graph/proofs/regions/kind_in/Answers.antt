-- `route_graph::kind_in` meets its contract: its tests are those of the definition, in the same order.
use borrow.Author.Tests.{lt-ltb, le-ltb}
use Rattle.route_graph.specs.inner.Ends.{kind_in}
use Rattle.route_graph.proofs.regions.kind_in.Goals as goal

pub returns-then-at-e : goal.returns-then-at-e
unfolding kind_in
returns-then-at-e c = simp (lt-ltb _ _ c.if-at-e.true)

pub returns-then-at-e-2 : goal.returns-then-at-e-2
unfolding kind_in
returns-then-at-e-2 c = simp (le-ltb _ _ c.if-at-e.false, lt-ltb _ _ c.if-at-e-2.true)

pub returns-then-at-e-3 : goal.returns-then-at-e-3
unfolding kind_in
returns-then-at-e-3 c = simp (le-ltb _ _ c.if-at-e.false, le-ltb _ _ c.if-at-e-2.false, lt-ltb _ _ c.if-at-e-3.true)

pub returns : goal.returns
unfolding kind_in
returns c = simp (le-ltb _ _ c.if-at-e.false, le-ltb _ _ c.if-at-e-2.false, le-ltb _ _ c.if-at-e-3.false)
