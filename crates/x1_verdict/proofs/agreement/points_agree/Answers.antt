-- `x1_verdict::agreement::points_agree` meets its contract. Each way out is a law of Tracks.
use native.Mathlib.Omega.{arith}
use Rattle.x1_verdict.proofs.Tracks.{points_end, points_off}
use Rattle.x1_verdict.proofs.agreement.points_agree.Goals as goal

pub returns-then-off-last : goal.returns-then-off-last
returns-then-off-last c = let a = c.args in
    points_off a.f.now a.size a.e c.first_off-off.result c.requires c.first_off-off.ensures c.point_agrees.result (omega (arith, c.if-off-last.true, c.number_of-last.ensures.is)) c.point_agrees.ensures

pub returns : goal.returns
returns c = let a = c.args in
    points_end a.f.now a.size a.e c.first_off-off.result c.requires c.first_off-off.ensures (omega (arith, c.if-off-last.false, c.number_of-last.ensures.is))
