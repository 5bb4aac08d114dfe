-- `x2_verdict::first_fault` meets its contract.
use Rattle.std.proofs.lemmas.Result.{err_from_is_err_and}
use Rattle.envelope.specs.Seal.{most_length}
use Rattle.rules.proofs.Length.{length_held}
use Rattle.x2_layout.proofs.Shapes.{found_regions}
use Rattle.x2_verdict.specs.Facts.{least_length}
use Rattle.x2_verdict.proofs.Checks.{length_refused, seal_refused, layout_refused, found_bounded, records_judged}
use Rattle.x2_verdict.proofs.first_fault.Goals as goal

pub returns-in_err-length_between : goal.returns-in_err-length_between
returns-in_err-length_between c =
    let p = err_from_is_err_and c.from_residual.result c.from_residual.ensures.1 in
    rw (p.1, p.2) (length_refused _ _ c.length_between.ensures _ c.in_err-length_between.was)

pub returns-in_err-check_seal : goal.returns-in_err-check_seal
returns-in_err-check_seal c =
    let p = err_from_is_err_and c.from_residual-in_err-check_seal.result c.from_residual-in_err-check_seal.ensures.1 in
    rw (p.1, p.2) (seal_refused _ _ c.length_between.ensures c.in_ok-length_between.was _ c.check_seal.ensures _ c.in_err-check_seal.was)

pub returns-in_err-l : goal.returns-in_err-l
returns-in_err-l c =
    let p = err_from_is_err_and c.from_residual-in_err-l.result c.from_residual-in_err-l.ensures.1 in
    rw (p.1, p.2)
    (layout_refused _ _ c.length_between.ensures c.in_ok-length_between.was _ c.check_seal.ensures c.in_ok-check_seal.was _ c.find_layout.ensures _ c.in_err-l.was)

pub check_records-requires : goal.check_records-requires
check_records-requires c =
    let f = c.args.f.now in
    let h = length_held f least_length most_length _ c.length_between.ensures c.in_ok-length_between.was in
    (found_bounded f _ c.find_layout.ensures _ c.in_ok-l.was h.1, found_regions f _ c.find_layout.ensures _ c.in_ok-l.was)

pub returns : goal.returns
returns c = records_judged _ _ c.length_between.ensures c.in_ok-length_between.was _ c.check_seal.ensures c.in_ok-check_seal.was _ c.find_layout.ensures _ c.in_ok-l.was _
    c.check_records.ensures
