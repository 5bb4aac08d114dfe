-- `octets::u32_at` meets its contract.
use native.Mathlib.Omega.{arith}
use Rattle.octets.proofs.Reading.{short}
use Rattle.octets.proofs.u32_at.Goals as goal

pub returns : goal.returns
returns c = short 3 _ _ _ (omega arith) c.u24_at.ensures
