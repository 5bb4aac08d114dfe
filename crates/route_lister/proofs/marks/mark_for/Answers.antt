-- `route_lister::marks::mark_for` meets its contract.
use mathlib.Core.Path.{sym, ◌∙◌}
use Rattle.route_lister.proofs.Marking.{mark_kept, mark_new}
use Rattle.route_lister.proofs.marks.mark_for.Goals as goal

pub returns-then-is_told : goal.returns-then-is_told
returns-then-is_told c = c.mark_of.ensures ∙ mark_kept _ _ _ _ (sym c.is_told.ensures ∙ c.if-is_told.true)

pub returns : goal.returns
returns c = mark_new _ _ _ _ (sym c.is_told.ensures ∙ c.if-is_told.false)
