-- `octets::byte_after` meets its contract.
use native.Mathlib.Omega.{arith}
use Rattle.octets.proofs.Reading.{past}
use Rattle.octets.proofs.byte_after.Goals as goal

pub returns-then-s-at : goal.returns-then-s-at
returns-then-s-at c = past 1 _ _ (omega arith) (omega arith)

pub returns-then-s-at-2 : goal.returns-then-s-at-2
returns-then-s-at-2 c = past 1 _ _ (omega arith) (omega arith)
