-- THEOREM: degrees are a binary64 number and never a NaN, whatever the whole number of milliarcseconds; and finite, up to 2 ^ 53 of them either way.
use Prim.Native.Nat.{ℕ, ◌*◌, ◌^◌, ◌≤◌, ◌<◌}
use native.Mathlib.Omega.{arith}
use mathlib.Core.Path.{subst⁻¹}
use mathlib.Core.Bool.{false, not, true}
use lib.IntN.{ℤ, pos, nat_abs}
use lib.Dec.{T, ltb→lt, lit<, lit≤}
use lib.Ieee.{Float, inf, fin, Format, binary64, low, up, down, is_nan, fits, round, of_int, div, nan}
use lib.Ieee.Exact.{HasValue}
use lib.Ieee.Fits.{div-fits}
use lib.Ieee.Back.{round_whole}
use lib.Ieee.Order.{round_mono}
use lib.Ieee.Positive.{positive, positive_of_value}
use lib.Ieee.Scale.{grid, overflow, finite}
use Rattle.degrees.specs.Degrees.{degree, degrees_of}
use Rattle.degrees_theorems.specs.Wholes.{negative, counted}
use Rattle.degrees_theorems.proofs.Quotients.{div_is}
use Rattle.degrees_theorems.proofs.Rounded.{round_number, under_of_le, round_value, value_finite}
use Rattle.degrees_theorems.proofs.Once.{conversion_is, conversion_exact, one_rounding}

pub degrees_fit : (z : ℤ) → T (fits binary64 (degrees_of z))
unfolding degrees_of
degrees_fit z = div-fits binary64 (of_int binary64 z) (of_int binary64 (pos degree))

div_number : (f : Format) (x y : Float) → T (not (is_nan x)) → T (positive y) → T (not (is_nan (div f x y)))
unfolding div is_nan
div_number f (inf s) (fin false n g) p q = tt
div_number f (fin s m e) (fin false n g) p q =
    subst⁻¹ (λ (v : Float). T (not (is_nan v))) (div_is f s m e n g (ltb→lt 0 n q)) (round_number f s (m * up e * down g) (n * up g * down e))
div_number f nan y p q = elim p [ ]
div_number f (inf s) nan p q = elim q [ ]
div_number f (inf s) (inf _) p q = elim q [ ]
div_number f (inf s) (fin true n g) p q = elim q [ ]
div_number f (fin s m e) nan p q = elim q [ ]
div_number f (fin s m e) (inf _) p q = elim q [ ]
div_number f (fin s m e) (fin true n g) p q = elim q [ ]

pub degrees_number : (z : ℤ) → T (not (is_nan (degrees_of z)))
unfolding degrees_of
degrees_number z =
    div_number binary64 (of_int binary64 z) (of_int binary64 (pos degree))
    (subst⁻¹ (λ (x : Float). T (not (is_nan x))) (conversion_is z) (round_number binary64 (negative z) (nat_abs z) 1))
    (positive_of_value (of_int binary64 (pos degree)) degree 1 (conversion_exact (pos degree) (lit≤ tt)) (lit< tt))

-- n / degree is at most n, which is a finite number
pub degrees_under : (n : ℕ) → n ≤ counted → grid binary64 n degree < overflow binary64
degrees_under n h =
    let less : n * 1 ≤ n * degree = omega arith in
    under_of_le binary64 n degree (round binary64 false n 1) (value_finite (round binary64 false n 1) false n 1 (round_whole binary64 false n h))
    (round_mono binary64 n degree n 1 (lit< tt) (lit< tt) less)

pub degrees_value : (z : ℤ) → nat_abs z ≤ counted → HasValue (degrees_of z) (negative z) (grid binary64 (nat_abs z) degree) (2 ^ low binary64)
degrees_value z h =
    subst⁻¹ (λ (x : Float). HasValue x (negative z) (grid binary64 (nat_abs z) degree) (2 ^ low binary64)) (one_rounding z h)
    (round_value binary64 (negative z) (nat_abs z) degree (degrees_under (nat_abs z) h))

pub degrees_finite : (z : ℤ) → nat_abs z ≤ counted → T (finite (degrees_of z))
degrees_finite z h = value_finite (degrees_of z) (negative z) (grid binary64 (nat_abs z) degree) (2 ^ low binary64) (degrees_value z h)
