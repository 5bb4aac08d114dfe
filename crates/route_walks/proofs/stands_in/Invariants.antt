-- `route_walks::stands_in` meets its contract. The loop's invariant: whether x is one of the objects before those that are still to be looked at.
use Rattle.std.proofs.Common.{◌≡◌, take}
use Rattle.route_walks.specs.Walks.{has}
use Rattle.route_walks.proofs.stands_in.Given as goal

abbrev pub invariant-loop-y : goal.invariant-loop-y
invariant-loop-y l = l.found ≡ has (take l.y-index l.walk) l.x
