-- `x2_verdict::check_in_turn` meets its contract.
use Rattle.std.proofs.lemmas.Result.{err_from_is_err_and}
use Rattle.x2_verdict.proofs.Checks.{fields_refused, agreement_refused, targets_refused, all_checked}
use Rattle.x2_verdict.proofs.check_in_turn.Goals as goal

pub returns-in_err-check_fields : goal.returns-in_err-check_fields
returns-in_err-check_fields c =
    let p = err_from_is_err_and c.from_residual.result c.from_residual.ensures.1 in
    rw (p.1, p.2) (fields_refused _ _ c.requires _ c.check_fields.ensures _ c.in_err-check_fields.was)

pub returns-in_err-check_agreement : goal.returns-in_err-check_agreement
returns-in_err-check_agreement c =
    let p = err_from_is_err_and c.from_residual-in_err-check_agreement.result c.from_residual-in_err-check_agreement.ensures.1 in
    rw (p.1, p.2) (agreement_refused _ _ c.requires _ c.check_fields.ensures c.in_ok-check_fields.was _ c.check_agreement.ensures _ c.in_err-check_agreement.was)

pub returns-in_err-check_targets : goal.returns-in_err-check_targets
returns-in_err-check_targets c =
    let p = err_from_is_err_and c.from_residual-in_err-check_targets.result c.from_residual-in_err-check_targets.ensures.1 in
    rw (p.1, p.2)
    (targets_refused _ _ c.requires _ c.check_fields.ensures c.in_ok-check_fields.was _ c.check_agreement.ensures c.in_ok-check_agreement.was _ c.check_targets.ensures _ c.in_err-check_targets.was)

pub returns : goal.returns
returns c = all_checked _ _ c.requires _ c.check_fields.ensures c.in_ok-check_fields.was _ c.check_agreement.ensures c.in_ok-check_agreement.was _
    c.check_targets.ensures c.in_ok-check_targets.was _ c.check_returns.ensures
