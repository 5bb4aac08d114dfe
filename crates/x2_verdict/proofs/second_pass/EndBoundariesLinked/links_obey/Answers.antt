-- The links of an end boundary are those of a start boundary.
use Rattle.x2_verdict.proofs.Linked.{like_boundary}
use Rattle.x2_verdict.proofs.second_pass.EndBoundariesLinked.links_obey.Goals as goal

pub returns : goal.returns
returns c = λ e before. like_boundary _ c.args.m.now.l c.args.at before (c.boundary_obeys.ensures e before)
