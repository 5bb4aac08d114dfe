-- `route_lister::marks::is_told` meets its contract.
use Rattle.route_lister.proofs.Marking.{told_none, told_one}
use Rattle.route_lister.proofs.marks.is_told.Goals as goal

pub returns-then-n-i : goal.returns-then-n-i
returns-then-n-i c = told_none _ _ _ _ _ c.mark_of-i.ensures c.if-n-i.true

pub returns : goal.returns
returns c = told_one _ _ _ _ _ c.mark_of-i.ensures _ _ c.if-n-i.false c.cell_of.ensures.0 c.cell_of-2.ensures.0
