-- `seven_bits::number_at` meets its contract.
use Rattle.seven_bits.specs.Numbers.{number_at}
use Rattle.seven_bits.proofs.number_at.Goals as goal

pub returns : goal.returns
unfolding number_at
returns c = c.groups_at.ensures
