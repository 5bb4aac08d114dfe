-- `plan_question::answered` meets its contract.
use Rattle.plan_question.proofs.Ways.{fits, compares, compares_words, refuses, refuses_words}
use Rattle.plan_question.proofs.answered.Goals as goal

pub counted-requires : goal.counted-requires
counted-requires c = fits _ c.args.lent.now _ _ _ _ c.routes_by.ensures.value _ c.in-Ok.is c.args.list.now c.requires

pub returns-in-Ok : goal.returns-in-Ok
returns-in-Ok c = record { value = compares _ _ _ _ _ _ c.routes_by.ensures.value _ c.in-Ok.is _ c.routes_by.ensures.out_after _ _ c.counted.ensures.value; list_after = compares_words _ _ _ _ _ _ c.routes_by.ensures.value _ c.in-Ok.is _ c.routes_by.ensures.out_after _ _ c.counted.ensures.list_after }

pub returns-in-Err : goal.returns-in-Err
returns-in-Err c = record { value = refuses _ c.args.lent.now _ _ _ _ c.routes_by.ensures.value _ c.in-Err.is _; list_after = refuses_words _ c.args.lent.now _ _ _ _ c.routes_by.ensures.value _ c.in-Err.is _ }
