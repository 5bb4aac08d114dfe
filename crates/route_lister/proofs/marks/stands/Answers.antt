-- `route_lister::marks::stands` meets its contract: where the mark says no object of the path, none has to be looked at.
use mathlib.Core.Path.{sym, ◌∙◌}
use lib.Seq.{length-take-le}
use Rattle.route_lister.proofs.Marking.{not_told}
use Rattle.route_lister.proofs.marks.stands.Goals as goal

pub slice_bounds-stands_in-end : goal.slice_bounds-stands_in-end
slice_bounds-stands_in-end c = sym (length-take-le c.args.n c.args.path.now c.requires.0)

pub returns : goal.returns
returns c = sym (not_told _ _ _ _ c.requires.1 c.requires.0 (sym c.is_told.ensures ∙ c.if-is_told.false))
