-- `seven_bits::groups_at` meets its contract. It ends since the groups that are left become fewer.
use Rattle.seven_bits.proofs.+groups_at.Given as goal

abbrev pub decreases-groups_at : goal.decreases-groups_at
decreases-groups_at l = l.left
