-- `octets::three_inside` meets its contract.
use Rattle.octets.proofs.Reading.{more}
use Rattle.octets.proofs.three_inside.Goals as goal

pub returns : goal.returns
returns c = more 2 _ _ _ _ c.byte_inside.ensures c.two_inside.ensures
