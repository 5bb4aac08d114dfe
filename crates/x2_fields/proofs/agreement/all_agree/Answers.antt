-- `x2_fields::agreement::all_agree` meets its contract: the facts of its parts, one after the other.
use Rattle.std.proofs.lemmas.Result.{err_from_is_err_and}
use Rattle.verdict.proofs.Facts.{stops, goes_on}
use Rattle.x2_fields.specs.Agreement.{agreement_facts}
use Rattle.x2_fields.proofs.agreement.all_agree.Goals as goal

pub returns-in_err-entries_agree : goal.returns-in_err-entries_agree
unfolding agreement_facts
returns-in_err-entries_agree c = let p = err_from_is_err_and c.from_residual.result c.from_residual.ensures.1 in
    rw (p.1, p.2)
    (stops _ _ _ _ c.entries_agree.ensures c.in_err-entries_agree.was)

pub returns-in_err-entries_agree-2 : goal.returns-in_err-entries_agree-2
unfolding agreement_facts
returns-in_err-entries_agree-2 c = let p = err_from_is_err_and c.from_residual-in_err-entries_agree-2.result c.from_residual-in_err-entries_agree-2.ensures.1 in
    rw (p.1, p.2)
    (goes_on _ _ _ _ c.entries_agree.ensures c.in_ok-entries_agree.was
    (stops _ _ _ _ c.entries_agree-2.ensures c.in_err-entries_agree-2.was))

pub returns : goal.returns
unfolding agreement_facts
returns c =
    (goes_on _ _ _ _ c.entries_agree.ensures c.in_ok-entries_agree.was
    (goes_on _ _ _ _ c.entries_agree-2.ensures c.in_ok-entries_agree-2.was
    c.records_agree.ensures))
