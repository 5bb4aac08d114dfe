-- `route_question::routes` meets its contract.
use Rattle.verdict.proofs.Questions.{own_fault}
use Rattle.std.specs.Prelude.{Err}
use Rattle.route_question.specs.Routes.{routes_asked}
use Rattle.route_question.proofs.Ways.{fault_keeps, answered, written}
use Rattle.route_question.proofs.routes.Goals as goal

pub returns-in_default : goal.returns-in_default
unfolding routes_asked
returns-in_default c = let v = c.verdict_of-v.ensures in
    let e = c.unwrap_err.ensures in
    record { value = own_fault Err _ _ _ v e _; out_after = fault_keeps _ _ _ _ _ v _ e _ }

pub returns : goal.returns
returns c = let v = c.verdict_of-v.ensures in
    let e = c.in-Ok.is in
    let i = c.layout_of.ensures.value in
    record { value = answered _ _ _ _ _ v e _ i _ _ c.list.ensures.answered; out_after = written _ _ _ _ _ v e _ i _ _ c.list.ensures.written }
