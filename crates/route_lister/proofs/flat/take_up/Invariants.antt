-- `route_lister::take_up` meets its contract. The loop's invariant is `Course`: what is done, and then what the open choices give, is all that is to be found. What
-- falls is twice the walks that the budget still allows, and the open choices: a choice that opens a walk puts at most two.
use Prim.Native.Nat.{◌+◌, ◌-◌}
use lib.ListN.{get_or, take}
use Rattle.route_graph.specs.inner.Ends.{object_in}
use Rattle.route_walks.specs.Walks.{walks}
use Rattle.route_lister.proofs.Course.{Course}
use Rattle.route_lister.proofs.flat.take_up.Given as goal

abbrev pub invariant-loop-waiting : goal.invariant-loop-waiting
invariant-loop-waiting l = Course (object_in l.f l.e) (walks (object_in l.f l.e) (l.limit - 1) (take 1 l.initial.path) (get_or l.initial.path 0 0) l.first) l.limit l.budget l.initial.path l.initial.out l.n l.waiting l.objects l.links l.marks l.path l.out l.t

abbrev pub decreases-loop-waiting : goal.decreases-loop-waiting
decreases-loop-waiting l = (l.budget + 1 - l.t.walks) + (l.budget + 1 - l.t.walks) + l.waiting
