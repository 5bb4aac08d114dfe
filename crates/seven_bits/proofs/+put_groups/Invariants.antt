-- `seven_bits::put_groups` meets its contract. It ends since the groups that are left become fewer.
use Rattle.seven_bits.proofs.+put_groups.Given as goal

abbrev pub decreases-put_groups : goal.decreases-put_groups
decreases-put_groups l = l.left
