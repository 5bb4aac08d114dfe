-- `yardsplit::write_piece` is safe: the numbers lie inside their room, and with the bytes they are no more than a slice has.
use Rattle.std.proofs.Common.{arith, sym, length-take-le}
use Rattle.yardsplit.proofs.Heads.{head_inside, head_few}
use Rattle.yardsplit.proofs.write_piece.Goals as goal

pub overflow_add-n : goal.overflow_add-n
overflow_add-n c = omega (arith, head_few _ _ _ _ c.head_of-numbers.ensures)

pub slice_bounds-laid-end : goal.slice_bounds-laid-end
slice_bounds-laid-end c = head_inside _ _ _ _ c.head_of-numbers.ensures

pub slice_bounds-write-end-2 : goal.slice_bounds-write-end-2
slice_bounds-write-end-2 c = sym (length-take-le _ _ (head_inside _ _ _ _ c.head_of-numbers.ensures))
