-- `route_lister::follow` and `route_lister::branch` meet their contracts, by one proof of their cycle of calls. What falls is twice the objects that are
-- left, and one more in `branch`. The loop of `follow` goes along a line: what remains to be followed from where it has come gives what following the first
-- link gives (`Line` of Turn). Each way out of the code is one law of Turn. In `follow`, h is where the way on is known, l is where the loop has
-- come, o is that a walk is opened there, p is the push of its last object, and way is how it goes on from there.
use Prim.Native.Nat.{◌+◌}
use Rattle.route_graph.specs.inner.Ends.{object_in}
use Rattle.route_lister.proofs.Turn.{Line}
use Rattle.route_lister.proofs.lister.+branch_follow.Given as goal

abbrev pub invariant-follow-loop-e : goal.invariant-follow-loop-e
invariant-follow-loop-e l = Line (object_in l.f l.e) l.budget l.from l.to l.n l.left l.initial.path l.initial.out l.initial.u l.last l.next l.k l.more l.marks l.path l.out l.u

abbrev pub decreases-follow-loop-e : goal.decreases-follow-loop-e
decreases-follow-loop-e l = l.more

abbrev pub decreases-branch : goal.decreases-branch
decreases-branch l = l.left + l.left + 1

abbrev pub decreases-follow : goal.decreases-follow
decreases-follow l = l.left + l.left
