-- `x1_verdict::agreement::later_obeys` meets its contract: the tests of its parts; where the file ends inside the point, what its facts say.
use mathlib.Core.Bool.{and-true}
use lib.Dec.{ltb}
use Rattle.x1_verdict.proofs.Checks.{later_tested}
use Rattle.x1_verdict.proofs.agreement.later_obeys.Goals as goal

pub point_obeys-requires : goal.point_obeys-requires
point_obeys-requires c = let frame = c.requires.frame in
    (frame.first, frame.last)

pub returns-then-f-p : goal.returns-then-f-p
returns-then-f-p c = c.point_obeys.ensures

pub returns : goal.returns
returns c = let a = c.args in
    let g = c.requires in
    later_tested a.f.now a.size (ltb c.number_of-before.result c.number_of.result) c.stay_obeys-stays.result a.e a.t.first a.t.last a.p g.frame.first g.frame.last g.after g.before
    (simp (and-true, c.number_of.ensures.is, c.number_of-before.ensures.is)) c.stay_obeys-stays.ensures
