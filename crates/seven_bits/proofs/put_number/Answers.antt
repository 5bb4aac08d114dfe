-- `seven_bits::put_number` meets its contract.
use native.Mathlib.Omega.{arith}
use Rattle.seven_bits.proofs.Groups.{put_short, put_room}
use Rattle.seven_bits.proofs.put_number.Goals as goal

pub returns-then-saturating_sub-lt-GROUPS_MOST : goal.returns-then-saturating_sub-lt-GROUPS_MOST
returns-then-saturating_sub-lt-GROUPS_MOST c = let p = put_short _ _ _ (omega arith) in record { next = p.0; stored = p.1 }

pub returns : goal.returns
returns c =
    let p = put_room _ _ _ _ _ (omega arith) (c.put_groups.ensures.next, c.put_groups.ensures.stored) in
    record { next = p.0; stored = p.1 }
