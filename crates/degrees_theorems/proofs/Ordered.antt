-- THEOREM: degrees are in the order of the milliarcseconds.
use Prim.Native.Nat.{ℕ, suc, ◌^◌, ◌≤◌, suc-le-suc}
use native.Mathlib.Nat.{mul-le-mul_right}
use mathlib.Core.Bool.{false}
use lib.IntN.{ℤ, pos, negsuc, nat_abs}
use lib.Signed.{◌≤ℤ◌}
use lib.Dec.{T, leb→le, lit<}
use lib.Ieee.{binary64, low, round, le}
use lib.Ieee.Order.{round_mono}
use lib.Ieee.Scale.{grid}
use Rattle.degrees.specs.Degrees.{degree, degrees_of}
use Rattle.degrees_theorems.specs.Wholes.{counted}
use Rattle.degrees_theorems.proofs.Comparing.{le_neg, le_across}
use Rattle.degrees_theorems.proofs.Once.{degrees_pos, degrees_negsuc}
use Rattle.degrees_theorems.proofs.Numbers.{degrees_value}

sizes : (m n : ℕ) → m ≤ n → T (le (round binary64 false m degree) (round binary64 false n degree))
sizes m n h = round_mono binary64 m degree n degree (lit< tt) (lit< tt) (mul-le-mul_right degree h)

pub degrees_order : (z w : ℤ) → nat_abs z ≤ counted → nat_abs w ≤ counted → z ≤ℤ w → T (le (degrees_of z) (degrees_of w))
degrees_order (pos m) (pos n) h k l = rw (degrees_pos m h, degrees_pos n k) (sizes m n (leb→le m n l.le))
degrees_order (pos m) (negsuc n) h k l = absurd l.le
degrees_order (negsuc m) (pos n) h k l =
    le_across (degrees_of (negsuc m)) (degrees_of (pos n)) (grid binary64 (suc m) degree) (2 ^ low binary64) (grid binary64 n degree) (2 ^ low binary64)
    (degrees_value (negsuc m) h) (degrees_value (pos n) k)
degrees_order (negsuc m) (negsuc n) h k l =
    rw (degrees_negsuc m h, degrees_negsuc n k)
    (le_neg (round binary64 false (suc n) degree) (round binary64 false (suc m) degree) (sizes (suc n) (suc m) (suc-le-suc (leb→le n m l.le))))
