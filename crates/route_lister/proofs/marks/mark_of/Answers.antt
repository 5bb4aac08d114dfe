-- `route_lister::marks::mark_of` meets its contract.
use Rattle.route_lister.proofs.marks.mark_of.Goals as goal

pub returns : goal.returns
returns c = simp c.cell_of-cell.ensures.0
