-- `yardplan::answer_lines` is safe: the words of a list are among those lent.
use Rattle.std.proofs.Common.{sym, length-take-le}
use Rattle.plan_question.proofs.Fits.{words_fit}
use Rattle.yardplan.proofs.answer_lines.Goals as goal

pub slice_bounds-compared_lines-end : goal.slice_bounds-compared_lines-end
slice_bounds-compared_lines-end c = words_fit _ _ _ _ _ _ _ _ _ c.compare.ensures.value c.in-Ok.is c.compare.ensures.list_after

pub slice_bounds-compared_lines-end-in-Ok : goal.slice_bounds-compared_lines-end-in-Ok
slice_bounds-compared_lines-end-in-Ok c = sym (length-take-le _ _ (words_fit _ _ _ _ _ _ _ _ _ c.compare.ensures.value c.in-Ok.is c.compare.ensures.list_after))
