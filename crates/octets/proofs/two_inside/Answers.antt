-- `octets::two_inside` meets its contract.
use Rattle.octets.proofs.Reading.{more}
use Rattle.octets.proofs.two_inside.Goals as goal

pub returns : goal.returns
returns c = more 1 _ _ _ _ c.byte_inside.ensures c.byte_inside-2.ensures
