-- THEOREM: two different whole numbers of milliarcseconds never share degrees, and the smaller has the smaller degrees, up to 2 ^ 51 of them either
-- way: the numbers there are spaced by half a milliarcsecond at most.
use Prim.Native.Nat.{ℕ, suc, ◌^◌, ◌≤◌, ◌<◌, zero-le, suc-le-suc}
use native.Mathlib.Nat.{le_antisymm, lt_of_le_of_lt, zero-lt-suc, mul-lt-mul_of_pos_right}
use native.Mathlib.Omega.{arith}
use mathlib.Core.Path.{◌≡◌, ap, subst}
use mathlib.Core.Bool.{false}
use lib.IntN.{ℤ, pos, negsuc, nat_abs}
use lib.Signed.{◌<ℤ◌, lt_z, lt_z_yes}
use lib.Dec.{T, ltb, ltb→lt, nltb→le, not_T, lit<, lit≤}
use lib.Pow.{pow_pos}
use lib.Ieee.{Float, binary64, low, round, lt, to_bits}
use lib.Ieee.Scale.{grid}
use Rattle.degrees.specs.Degrees.{degree, degrees_of}
use Rattle.degrees_theorems.specs.Wholes.{told_apart}
use Rattle.degrees_theorems.proofs.Rounded.{round_value}
use Rattle.degrees_theorems.proofs.Once.{degrees_pos, degrees_negsuc}
use Rattle.degrees_theorems.proofs.Numbers.{degrees_fit, degrees_under, degrees_value}
use Rattle.degrees_theorems.proofs.Comparing.{lt_neg, lt_across, lt_of_values, lt_itself}
use Rattle.degrees_theorems.proofs.Bits.{same_bits}
use Rattle.degrees_theorems.proofs.Spacing.{grid_strict}

grids : (m n : ℕ) → m ≤ told_apart → n ≤ told_apart → m < n → grid binary64 m degree < grid binary64 n degree
grids m n h k l = grid_strict binary64 degree (lit< tt) (lit≤ tt) m n (omega arith) (omega arith) l

sizes : (m n : ℕ) → m ≤ told_apart → n ≤ told_apart → m < n → T (lt (round binary64 false m degree) (round binary64 false n degree))
sizes m n h k l =
    let unit = 2 ^ low binary64 in
    lt_of_values (round binary64 false m degree) (round binary64 false n degree) (grid binary64 m degree) unit (grid binary64 n degree) unit
    (round_value binary64 false m degree (degrees_under m (omega arith)))
    (round_value binary64 false n degree (degrees_under n (omega arith)))
    (mul-lt-mul_of_pos_right (grids m n h k l) (pow_pos (low binary64)))

pub degrees_strict : (z w : ℤ) → nat_abs z ≤ told_apart → nat_abs w ≤ told_apart → z <ℤ w → T (lt (degrees_of z) (degrees_of w))
degrees_strict (pos m) (pos n) h k l = rw (degrees_pos m (omega arith), degrees_pos n (omega arith)) (sizes m n h k (ltb→lt m n l.lt))
degrees_strict (pos m) (negsuc n) h k l = absurd l.lt
degrees_strict (negsuc m) (pos n) h k l =
    let unit = 2 ^ low binary64 in
    lt_across (degrees_of (negsuc m)) (degrees_of (pos n)) (grid binary64 (suc m) degree) unit (grid binary64 n degree) unit
    (degrees_value (negsuc m) (omega arith)) (degrees_value (pos n) (omega arith))
    (lt_of_le_of_lt zero-le (grids 0 (suc m) zero-le h (zero-lt-suc m)))
degrees_strict (negsuc m) (negsuc n) h k l =
    rw (degrees_negsuc m (omega arith), degrees_negsuc n (omega arith))
    (lt_neg (round binary64 false (suc n) degree) (round binary64 false (suc m) degree) (sizes (suc n) (suc m) k h (suc-le-suc (ltb→lt n m l.lt))))

-- ---- so degrees say the milliarcseconds

neither_less : (z w : ℤ) → (T (lt_z z w) → ⊥) → (T (lt_z w z) → ⊥) → z ≡ w
neither_less (pos m) (pos n) p q = ap pos (le_antisymm (nltb→le n m (not_T (ltb n m) q)) (nltb→le m n (not_T (ltb m n) p)))
neither_less (pos m) (negsuc n) p q = absurd (q tt)
neither_less (negsuc m) (pos n) p q = absurd (p tt)
neither_less (negsuc m) (negsuc n) p q = ap negsuc (le_antisymm (nltb→le n m (not_T (ltb n m) p)) (nltb→le m n (not_T (ltb m n) q)))

pub degrees_say : (z w : ℤ) → nat_abs z ≤ told_apart → nat_abs w ≤ told_apart → degrees_of z ≡ degrees_of w → z ≡ w
degrees_say z w h k e =
    neither_less z w
    (λ (t : T (lt_z z w)). lt_itself (degrees_of w) (subst (λ (x : Float). T (lt x (degrees_of w))) e (degrees_strict z w h k (lt_z_yes t))))
    (λ (t : T (lt_z w z)). lt_itself (degrees_of w) (subst (λ (x : Float). T (lt (degrees_of w) x)) e (degrees_strict w z k h (lt_z_yes t))))

pub bits_say : (z w : ℤ) → nat_abs z ≤ told_apart → nat_abs w ≤ told_apart → to_bits binary64 (degrees_of z) ≡ to_bits binary64 (degrees_of w) → z ≡ w
bits_say z w h k e = degrees_say z w h k (same_bits (degrees_of z) (degrees_of w) (degrees_fit z) (degrees_fit w) e)
