-- `x1_questions::track` meets its contract.
use Rattle.verdict.proofs.Questions.{own_fault}
use Rattle.std.specs.Prelude.{Err}
use Rattle.x1_questions.specs.Questions.{track_of}
use Rattle.x1_questions.proofs.Questions.{track_none, track_there}
use Rattle.x1_questions.proofs.track.Goals as goal

pub returns-in_default : goal.returns-in_default
unfolding track_of
returns-in_default c = own_fault Err _ _ _ c.verdict_of-v.ensures c.unwrap_err.ensures _

pub returns-then-number_of-index : goal.returns-then-number_of-index
returns-then-number_of-index c = track_none c.args.f.now c.verdict_of-v.ensures c.in-Ok.is c.number_of.ensures.is _ c.if-number_of-index.true c.refusal.ensures

pub returns : goal.returns
returns c = track_there c.args.f.now c.verdict_of-v.ensures c.in-Ok.is c.number_of.ensures.is _ c.if-number_of-index.false
    c.entry_place-at.ensures c.size_of.ensures c.read.ensures
