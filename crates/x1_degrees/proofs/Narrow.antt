-- A coordinate in its range is a number of 32 bits: the machine's cast from 64 keeps it.
use Prim.Native.Nat.{ℕ, ◌^◌, ◌≤◌, ◌<◌}
use mathlib.Core.Path.{◌≡◌, sym, subst, ◌∙◌}
use native.Mathlib.Omega.{arith}
use lib.IntN.{ℤ, pos, negsuc, nat_abs}
use lib.Signed.{mag}
use mir.Syntax.{w32, w64}
use mir.Val.{SFits, to_z, of_z}
use mir.Facts.{to_z-of_z}

-- no farther from 0 than the farthest longitude
small : (z : ℤ) (k : ℕ) → nat_abs z ≤ 648000000 → 648000000 < k → mag z < k
small (pos n) k h l = omega arith
small (negsuc n) k h l = omega arith

-- as the machine reads it back
abbrev pub wide : ℤ → ℤ
wide z = to_z w64 (of_z w64 z)

module _ (z : ℤ) (h : nat_abs z ≤ 648000000) where
  wide_is : wide z ≡ z
  wide_is = to_z-of_z {w = w64} (record { sfits = small z (2 ^ 63) h (omega arith) })

  pub narrow : SFits w32 (wide z)
  narrow = subst (SFits w32) (sym wide_is) (record { sfits = small z (2 ^ 31) h (omega arith) })

  pub narrow_is : to_z w32 (of_z w32 (wide z)) ≡ z
  narrow_is = to_z-of_z {w = w32} narrow ∙ wide_is
