-- `octets::u16_at` meets its contract.
use native.Mathlib.Omega.{arith}
use Rattle.octets.proofs.Reading.{short}
use Rattle.octets.proofs.u16_at.Goals as goal

pub returns : goal.returns
returns c = short 1 _ _ _ (omega arith) c.byte_at.ensures
