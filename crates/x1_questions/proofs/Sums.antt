-- A coordinate's start plus its increment, as the machine reads it back: the sum is small.
use Prim.Native.Nat.{ℕ}
use mathlib.Core.Path.{◌≡◌, ◌∙◌}
use mathlib.Core.List.{List}
use native.Mathlib.Omega.{arith}
use lib.IntN.{ℤ}
use Rattle.octets.proofs.Signs.{read, kept}
use Rattle.x1_records.specs.declared.Axis.{Axis}
use Rattle.x1_verdict.specs.Agreement.{axis_sum, SumOf}

pub summed : (f : List ℕ) (axis : Axis) (e p : ℕ) (r : ℤ) → SumOf f axis e p r → read r ≡ axis_sum f axis e p
summed f axis e p r s = let n = s.small in kept r (omega arith) ∙ s.is
