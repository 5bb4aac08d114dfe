-- `route_graph::boundary_at` meets its contract: its tests are those of the definition, in the same order.
use borrow.Author.Tests.{lt-leb, le-leb, lt-ltb, le-ltb}
use Rattle.route_graph.specs.Objects.{boundary_starts}
use Rattle.route_graph.proofs.boundary_at.Goals as goal

pub returns-then-at-gt-OFFSET_MOST : goal.returns-then-at-gt-OFFSET_MOST
unfolding boundary_starts
returns-then-at-gt-OFFSET_MOST c = simp (lt-leb _ _ c.if-at-gt-OFFSET_MOST.true)

pub returns-then-at-header : goal.returns-then-at-header
unfolding boundary_starts
returns-then-at-header c = simp (le-leb _ _ c.if-at-gt-OFFSET_MOST.false, lt-leb _ _ c.if-at-header.true)

pub returns-then-l-at : goal.returns-then-l-at
unfolding boundary_starts
returns-then-l-at c = simp (le-leb _ _ c.if-at-gt-OFFSET_MOST.false, le-leb _ _ c.if-at-header.false, le-ltb _ _ c.if-l-at.true)

pub returns : goal.returns
unfolding boundary_starts
returns c = simp (le-leb _ _ c.if-at-gt-OFFSET_MOST.false, le-leb _ _ c.if-at-header.false, lt-ltb _ _ c.if-l-at.false)
