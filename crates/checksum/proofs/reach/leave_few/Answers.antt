-- `checksum::reach::leave_few` meets its contract: the lead is passed on, then all bytes but the last, and `few_is` says what is left.
use Prim.Native.Nat.{ℕ, ◌-◌}
use native.Mathlib.Omega.{arith}
use lib.ListN.{length}
use Rattle.checksum.proofs.Row.{few_is}
use Rattle.checksum.proofs.reach.leave_few.Goals as goal

pub returns : goal.returns
returns c = let s = c.args.s.now in
    let n : ℕ = length s - 341 in
    few_is _ _ s _ n (length s - n) (omega arith) (omega arith) c.pass_part.ensures c.pass_all.ensures c.leave.ensures
