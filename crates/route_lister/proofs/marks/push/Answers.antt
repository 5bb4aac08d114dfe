-- `route_lister::marks::push` meets its contract.
use mathlib.Core.Path.{refl}
use Rattle.route_lister.proofs.Marking.{marked_more}
use Rattle.route_lister.proofs.marks.push.Goals as goal

pub returns : goal.returns
returns c = record { put = refl; marked = rw (c.cell_of-cell.ensures.0, c.mark_for-mark.ensures) (marked_more _ _ _ _ c.requires.2 c.requires.0) }
