-- `octets::byte_at` meets its contract.
use native.Mathlib.Omega.{arith}
use Rattle.octets.proofs.Reading.{past}
use Rattle.octets.proofs.byte_at.Goals as goal

pub returns : goal.returns
returns c = past 1 _ _ c.if-at-s.false (omega arith)
