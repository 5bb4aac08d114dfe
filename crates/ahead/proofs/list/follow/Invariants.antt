-- `ahead::list::follow` meets its contract. The loop's invariant: the first n of the path are listed, and what follows them by the link `to` is all
-- that follows.
use Prim.Native.Nat.{◌-◌}
use Rattle.route_graph.specs.Objects.{object_at}
use Rattle.ahead.specs.Ahead.{objects_most}
use Rattle.ahead.proofs.Looking.{Looking}
use Rattle.ahead.proofs.list.follow.Given as goal

abbrev pub invariant-loop-to : goal.invariant-loop-to
invariant-loop-to l = Looking (object_at l.g l.l) l.lies l.passed l.first l.path l.n l.from l.to

abbrev pub decreases-loop-to : goal.decreases-loop-to
decreases-loop-to l = objects_most - l.n
