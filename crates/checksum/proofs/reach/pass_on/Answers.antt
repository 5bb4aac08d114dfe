-- `checksum::reach::pass_on` meets its contract. The loop's invariant: the bytes of s before the place k are in the row.
use Rattle.std.proofs.Common.{arith}
use Rattle.checksum.proofs.Row.{after_none, after_on, after_all}
use Rattle.checksum.proofs.reach.pass_on.Goals as goal

pub loop-k-init : goal.loop-k-init
loop-k-init c = after_none _ c.args.s.now

pub loop-k-preserved : goal.loop-k-preserved
loop-k-preserved c = let l = c.loop-k in
    after_on _ _ _ l.k _ (omega arith) (omega arith) c.brought.ensures l.invariant

pub returns : goal.returns
returns c = after_all _ _ _ c.loop-k.k (omega arith) c.loop-k.invariant
