-- `x2_layout::faults::check_layout` meets its contract. Its parts join one after the other.
use Rattle.verdict.proofs.Facts.{stops, goes_on}
use Rattle.x2_layout.specs.Facts.{layout_facts}
use Rattle.std.proofs.lemmas.Result.{err_from_is_err_and}
use Rattle.x2_layout.proofs.faults.check_layout.Goals as goal

pub returns-in_err-counts_layout : goal.returns-in_err-counts_layout
unfolding layout_facts
returns-in_err-counts_layout c =
    let p = err_from_is_err_and c.from_residual.result c.from_residual.ensures.1 in
    rw (p.1, p.2)
    (stops _ _ _ _ c.counts_layout.ensures c.in_err-counts_layout.was)

pub returns-in_err-offsets_layout : goal.returns-in_err-offsets_layout
unfolding layout_facts
returns-in_err-offsets_layout c =
    let p = err_from_is_err_and c.from_residual-in_err-offsets_layout.result c.from_residual-in_err-offsets_layout.ensures.1 in
    rw (p.1, p.2)
    (goes_on _ _ _ _ c.counts_layout.ensures c.in_ok-counts_layout.was
    (stops _ _ _ _ c.offsets_layout.ensures c.in_err-offsets_layout.was))

pub returns-in_err-offsets_layout-2 : goal.returns-in_err-offsets_layout-2
unfolding layout_facts
returns-in_err-offsets_layout-2 c =
    let p = err_from_is_err_and c.from_residual-in_err-offsets_layout-2.result c.from_residual-in_err-offsets_layout-2.ensures.1 in
    rw (p.1, p.2)
    (goes_on _ _ _ _ c.counts_layout.ensures c.in_ok-counts_layout.was
    (goes_on _ _ _ _ c.offsets_layout.ensures c.in_ok-offsets_layout.was (stops _ _ _ _ c.offsets_layout-2.ensures c.in_err-offsets_layout-2.was)))

pub returns : goal.returns
unfolding layout_facts
returns c =
    goes_on _ _ _ _ c.counts_layout.ensures c.in_ok-counts_layout.was
    (goes_on _ _ _ _ c.offsets_layout.ensures c.in_ok-offsets_layout.was
    (goes_on _ _ _ _ c.offsets_layout-2.ensures c.in_ok-offsets_layout-2.was (simp (c.check_groups.ensures, c.yard_offsets-o.ensures.value))))
