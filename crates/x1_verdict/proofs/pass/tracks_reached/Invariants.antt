-- `x1_verdict::pass::tracks_reached` meets its contract. The invariant: the tracks before the entry at e agree, and the fields of the
-- points before `due` obey.
use Rattle.x1_verdict.specs.inner.Pass.{Passing}
use Rattle.x1_verdict.proofs.pass.tracks_reached.Given as goal

abbrev pub invariant-loop-e : goal.invariant-loop-e
invariant-loop-e l = Passing l.f l.size l.e l.due
