-- THEOREM: whole degrees are exact: k degrees of milliarcseconds become the number k itself. A whole multiple of a degree, divided by a degree, is
-- the fraction k / 1, and equal fractions round alike.
use Prim.Native.Nat.{ℕ, zero, suc, ◌*◌, ◌≤◌, ◌<◌}
use native.Mathlib.Nat.{mul-one, mul-pos, zero-lt-suc, lt_irrefl}
use native.Mathlib.Omega.{arith}
use mathlib.Core.Path.{◌≡◌, refl, sym, ap, ◌∙◌, subst⁻¹}
use mathlib.Core.Bool.{Bool, true}
use lib.IntN.{ℤ, pos, negsuc, neg_ℤ, nat_abs, ◌*ℤ◌}
use lib.Dec.{lit<}
use lib.Ieee.{Float, binary64, round, of_int}
use lib.Ieee.Scale.{round_same}
use Rattle.degrees.specs.Degrees.{degree, degrees_of}
use Rattle.degrees_theorems.specs.Wholes.{negative, IsWhole, counted}
use Rattle.degrees_theorems.proofs.Once.{conversion_is, conversion_exact, one_rounding}

-- ---- a number times a number above 0: its size and its sign

opposite_size : (n : ℕ) → nat_abs (neg_ℤ (pos n)) ≡ n
opposite_size zero = refl
opposite_size (suc n) = refl

opposite_sign : (n : ℕ) → 0 < n → negative (neg_ℤ (pos n)) ≡ true
opposite_sign zero h = absurd (lt_irrefl 0 h)
opposite_sign (suc n) h = refl

times_size : (k : ℤ) (n : ℕ) → nat_abs (k *ℤ pos n) ≡ nat_abs k * n
times_size (pos a) n = refl
times_size (negsuc a) n = opposite_size (suc a * n)

times_sign : (k : ℤ) (n : ℕ) → 0 < n → negative (k *ℤ pos n) ≡ negative k
times_sign (pos a) n h = refl
times_sign (negsuc a) n h = opposite_sign (suc a * n) (mul-pos (zero-lt-suc a) h)

-- ---- k degrees

module _ (k : ℤ) (small : nat_abs k * degree ≤ counted) where
  pub multiple_is : degrees_of (k *ℤ pos degree) ≡ of_int binary64 k
  multiple_is =
      one_rounding (k *ℤ pos degree) (subst⁻¹ (λ (n : ℕ). n ≤ counted) (times_size k degree) small)
      ∙ ap (λ (s : Bool). round binary64 s (nat_abs (k *ℤ pos degree)) degree) (times_sign k degree (lit< tt))
      ∙ ap (λ (n : ℕ). round binary64 (negative k) n degree) (times_size k degree)
      ∙ round_same binary64 (negative k) (nat_abs k * degree) degree (nat_abs k) 1 (lit< tt) (lit< tt) (mul-one (nat_abs k * degree))
      ∙ sym (conversion_is k)

  pub multiple_exact : IsWhole (degrees_of (k *ℤ pos degree)) k
  multiple_exact = subst⁻¹ (λ (x : Float). IsWhole x k) multiple_is (conversion_exact k (omega arith))

within : (k : ℤ) → nat_abs k ≤ 180 → nat_abs k * degree ≤ counted
within k h = omega arith

-- THEOREM: for every whole number of degrees that a coordinate can have
pub whole_degrees : (k : ℤ) → nat_abs k ≤ 180 → degrees_of (k *ℤ pos degree) ≡ of_int binary64 k
whole_degrees k h = multiple_is k (within k h)

pub whole_degrees_exact : (k : ℤ) → nat_abs k ≤ 180 → IsWhole (degrees_of (k *ℤ pos degree)) k
whole_degrees_exact k h = multiple_exact k (within k h)
