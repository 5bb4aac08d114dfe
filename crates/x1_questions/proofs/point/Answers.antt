-- `x1_questions::point` meets its contract: by where the point stands.
use mathlib.Core.Path.{sym, ◌∙◌}
use Rattle.verdict.proofs.Questions.{own_fault}
use Rattle.std.specs.Prelude.{Err}
use Rattle.x1_questions.specs.Questions.{point_of}
use Rattle.x1_questions.proofs.Questions.{point_none, point_there}
use Rattle.x1_questions.proofs.point.Goals as goal

pub returns-in_default : goal.returns-in_default
unfolding point_of
returns-in_default c = own_fault Err _ _ _ c.verdict_of-verdict.ensures c.unwrap_err.ensures _

pub find_point-sought-requires : goal.find_point-sought-requires
find_point-sought-requires c = sym c.verdict_of-verdict.ensures ∙ c.in-Ok.is

pub returns-in_default-sought : goal.returns-in_default-sought
returns-in_default-sought c = point_none _ c.verdict_of-verdict.ensures c.in-Ok.is _ _ c.find_point-sought.ensures c.in_default-sought.is c.refusal.ensures

pub returns : goal.returns
returns c = point_there _ c.verdict_of-verdict.ensures c.in-Ok.is _ _ c.find_point-sought.ensures c.in-Some.is c.size_of.ensures c.read.ensures
