-- `octets::u24_at` meets its contract.
use native.Mathlib.Omega.{arith}
use Rattle.octets.proofs.Reading.{short}
use Rattle.octets.proofs.u24_at.Goals as goal

pub returns : goal.returns
returns c = short 2 _ _ _ (omega arith) c.u16_at.ensures
