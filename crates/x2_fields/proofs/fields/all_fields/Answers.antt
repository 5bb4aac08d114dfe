-- `x2_fields::fields::all_fields` meets its contract: the facts of its parts, one after the other.
use Rattle.std.proofs.lemmas.Result.{err_from_is_err_and}
use Rattle.verdict.proofs.Facts.{stops, goes_on}
use Rattle.x2_fields.specs.Fields.{field_facts}
use Rattle.x2_fields.proofs.fields.all_fields.Goals as goal

pub returns-in_err-header_fields : goal.returns-in_err-header_fields
unfolding field_facts
returns-in_err-header_fields c = let p = err_from_is_err_and c.from_residual.result c.from_residual.ensures.1 in
    rw (p.1, p.2)
    (stops _ _ _ _ c.header_fields.ensures c.in_err-header_fields.was)

pub returns-in_err-entries_fields : goal.returns-in_err-entries_fields
unfolding field_facts
returns-in_err-entries_fields c = let p = err_from_is_err_and c.from_residual-in_err-entries_fields.result c.from_residual-in_err-entries_fields.ensures.1 in
    rw (p.1, p.2)
    (goes_on _ _ _ _ c.header_fields.ensures c.in_ok-header_fields.was
    (stops _ _ _ _ c.entries_fields.ensures c.in_err-entries_fields.was))

pub returns-in_err-entries_fields-2 : goal.returns-in_err-entries_fields-2
unfolding field_facts
returns-in_err-entries_fields-2 c = let p = err_from_is_err_and c.from_residual-in_err-entries_fields-2.result c.from_residual-in_err-entries_fields-2.ensures.1 in
    rw (p.1, p.2)
    (goes_on _ _ _ _ c.header_fields.ensures c.in_ok-header_fields.was
    (goes_on _ _ _ _ c.entries_fields.ensures c.in_ok-entries_fields.was
    (stops _ _ _ _ c.entries_fields-2.ensures c.in_err-entries_fields-2.was)))

pub returns : goal.returns
unfolding field_facts
returns c =
    (goes_on _ _ _ _ c.header_fields.ensures c.in_ok-header_fields.was
    (goes_on _ _ _ _ c.entries_fields.ensures c.in_ok-entries_fields.was
    (goes_on _ _ _ _ c.entries_fields-2.ensures c.in_ok-entries_fields-2.was
    c.records_fields.ensures)))
