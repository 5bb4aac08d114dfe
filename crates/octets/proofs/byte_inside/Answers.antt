-- `octets::byte_inside` meets its contract.
use Rattle.octets.proofs.Reading.{one}
use Rattle.octets.proofs.byte_inside.Goals as goal

pub returns : goal.returns
returns c = one _ _ (c.type_inv.s c.args.at).fits
