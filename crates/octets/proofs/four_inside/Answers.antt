-- `octets::four_inside` meets its contract.
use Rattle.octets.proofs.Reading.{more}
use Rattle.octets.proofs.four_inside.Goals as goal

pub returns : goal.returns
returns c = more 3 _ _ _ _ c.byte_inside.ensures c.three_inside.ensures
