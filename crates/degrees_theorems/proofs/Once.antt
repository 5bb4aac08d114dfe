-- THEOREM: a number of milliarcseconds becomes degrees by one rounding. Its conversion is exact, so only the division rounds: the exact quotient to
-- the nearest number, of two equally near ones to the even one.
use Prim.Native.Nat.{ℕ, suc, ◌≤◌}
use native.Mathlib.Nat.{mul-one}
use mathlib.Core.Path.{◌≡◌, refl, ap, ◌∙◌}
use mathlib.Core.Bool.{true, false}
use lib.IntN.{ℤ, pos, negsuc, nat_abs}
use lib.Dec.{lit<, lit≤}
use lib.Ieee.{binary64, round, neg, of_int}
use lib.Ieee.Back.{round_whole}
use Rattle.degrees.specs.Degrees.{degree, degrees_of}
use Rattle.degrees_theorems.specs.Wholes.{negative, IsWhole, counted}
use Rattle.degrees_theorems.proofs.Quotients.{div_at}
use Rattle.degrees_theorems.proofs.Rounded.{round_neg}

pub conversion_is : (z : ℤ) → of_int binary64 z ≡ round binary64 (negative z) (nat_abs z) 1
unfolding of_int
conversion_is (pos n) = refl
conversion_is (negsuc n) = refl

pub conversion_exact : (z : ℤ) → nat_abs z ≤ counted → IsWhole (of_int binary64 z) z
unfolding of_int
conversion_exact (pos n) h = round_whole binary64 false n h
conversion_exact (negsuc n) h = round_whole binary64 true (suc n) h

pub one_rounding : (z : ℤ) → nat_abs z ≤ counted → degrees_of z ≡ round binary64 (negative z) (nat_abs z) degree
unfolding degrees_of
one_rounding z h =
    div_at binary64 (of_int binary64 z) (of_int binary64 (pos degree)) (negative z) (nat_abs z) 1 degree 1 (lit< tt) (lit< tt) (lit< tt)
    (conversion_exact z h) (conversion_exact (pos degree) (lit≤ tt))
    ∙ ap (λ (n : ℕ). round binary64 (negative z) n degree) (mul-one (nat_abs z))

-- by the sign: the degrees of the size, or their opposite
pub degrees_pos : (n : ℕ) → n ≤ counted → degrees_of (pos n) ≡ round binary64 false n degree
degrees_pos n h = one_rounding (pos n) h

pub degrees_negsuc : (n : ℕ) → suc n ≤ counted → degrees_of (negsuc n) ≡ neg (round binary64 false (suc n) degree)
degrees_negsuc n h = one_rounding (negsuc n) h ∙ round_neg binary64 (suc n) degree
