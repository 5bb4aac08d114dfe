-- `checksum::reach::leave` meets its contract. The loop's invariant: the bytes of s before the place k are left, and the row has nothing for
-- them.
use Rattle.std.proofs.Common.{arith}
use Rattle.checksum.proofs.Row.{leaves_on, leaves_all}
use Rattle.checksum.proofs.reach.leave.Goals as goal

pub loop-k-preserved : goal.loop-k-preserved
loop-k-preserved c = let l = c.loop-k in
    leaves_on _ _ _ _ l.k _ (omega arith) (omega arith) c.brought.ensures l.invariant

pub returns : goal.returns
returns c = leaves_all _ _ _ _ c.loop-k.k (omega arith) (omega arith) c.loop-k.invariant
