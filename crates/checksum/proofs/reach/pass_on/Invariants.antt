-- `checksum::reach::pass_on` meets its contract. The loop's invariant: the bytes of s before the place k are in the row.
use Rattle.checksum.proofs.Row.{After}
use Rattle.checksum.proofs.reach.pass_on.Given as goal

abbrev pub invariant-loop-k : goal.invariant-loop-k
invariant-loop-k l = After l.initial.row l.s l.k l.row
