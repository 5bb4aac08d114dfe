-- `x2_verdict::header` meets its contract.
use Rattle.verdict.proofs.Questions.{own_fault}
use Rattle.std.specs.Prelude.{Err}
use Rattle.x2_verdict.specs.Questions.{named_header_of}
use Rattle.x2_verdict.proofs.Questions.{header_there}
use Rattle.x2_verdict.proofs.header.Goals as goal

pub returns-in_default : goal.returns-in_default
unfolding named_header_of
returns-in_default c = own_fault Err _ _ _ c.verdict_of-v.ensures c.unwrap_err.ensures _

pub returns : goal.returns
returns c = header_there _ c.verdict_of-v.ensures c.in-Ok.is c.read-header.ensures c.station_name_length.ensures.is
