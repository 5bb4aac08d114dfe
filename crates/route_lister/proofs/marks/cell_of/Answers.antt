-- `route_lister::marks::cell_of` meets its contract.
use mathlib.Core.Path.{refl}
use Rattle.route_lister.specs.inner.Marks.{cell_of}
use Rattle.route_lister.proofs.Marking.{cell_below}
use Rattle.route_lister.proofs.marks.cell_of.Goals as goal

pub returns : goal.returns
unfolding cell_of
returns c = (refl, cell_below c.args.x)
