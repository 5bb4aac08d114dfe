-- `x1_questions::header` meets its contract.
use Rattle.verdict.proofs.Questions.{own_fault}
use Rattle.std.specs.Prelude.{Err}
use Rattle.x1_questions.specs.Questions.{header_of}
use Rattle.x1_questions.proofs.Questions.{header_there}
use Rattle.x1_questions.proofs.header.Goals as goal

pub returns-in_default : goal.returns-in_default
unfolding header_of
returns-in_default c = own_fault Err _ _ _ c.verdict_of-v.ensures c.unwrap_err.ensures _

pub returns : goal.returns
returns c = header_there _ c.verdict_of-v.ensures c.in-Ok.is c.read.ensures
