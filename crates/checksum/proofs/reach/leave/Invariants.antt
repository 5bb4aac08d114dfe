-- `checksum::reach::leave` meets its contract. The loop's invariant: the bytes of s before the place k are left, and the row has nothing for
-- them.
use Rattle.checksum.proofs.Row.{Leaves}
use Rattle.checksum.proofs.reach.leave.Given as goal

abbrev pub invariant-loop-k : goal.invariant-loop-k
invariant-loop-k l = Leaves l.initial.row l.s l.k l.row l.few
