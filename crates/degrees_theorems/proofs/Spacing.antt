-- Two different whole numbers, each divided by D and rounded, stay apart: each result is off by what the numbers there are spaced, at most, and
-- that is half of 1 / D at most.
use Prim.Native.Nat.{ℕ, zero, suc, ◌+◌, ◌-◌, ◌*◌, ◌/◌, ◌%◌, ◌^◌, ◌≤◌, ◌<◌, compare}
use native.Mathlib.Nat.{le_trans, le_of_eq, lt_of_lt_of_le, lt_of_mul-lt-mul_right, mul_assoc, mul_comm, mul_left_comm, mul_right_comm, mul-pos, mul-le-mul_right, le_of_mul-le-mul_left, suc-mul, mod-lt, div-add-mod', div-mul-le_self, le-div_iff_mul-le}
use native.Mathlib.Omega.{arith}
use mathlib.Core.Path.{◌≡◌, refl, ap, sym, ◌∙◌}
use lib.Pow.{pow-add, pow_pos}
use lib.Ieee.{Format, prec, low, size}
use lib.Ieee.Digits.{size_reaches}
use lib.Ieee.Fits.{nearest-le, two, two-le_pos}
use lib.Ieee.Nearest.{closest, nearest-ge}
use lib.Ieee.Order.{drop, kept}
use lib.Ieee.Scale.{grid}

-- ---- a / b to the nearest whole number is off by 1 at most

closest_most : (a b : ℕ) → closest a b * b ≤ a + b
closest_most a b =
    let up : closest a b * b ≤ suc (a / b) * b = mul-le-mul_right b (nearest-le (a / b) (compare (a % b * 2) b)) in
    omega (arith, up, suc-mul (a / b) b, div-mul-le_self a b)

closest_least : (a b : ℕ) → 0 < b → a < closest a b * b + b
closest_least a b B =
    let down : a / b * b ≤ closest a b * b = mul-le-mul_right b (nearest-ge (a / b) (compare (a % b * 2) b)) in
    omega (arith, down, div-add-mod' a b, mod-lt a B)

-- ---- n / D in units of the format's smallest value, rounded

all_in_use : (z p j : ℕ) → 0 < p → z - p ≡ suc j → p - 1 + suc j < z
all_in_use z p j some e = omega arith

-- u and v are what two results are off by at most, each half of L
far : (x y a b u v L : ℕ) → x ≤ a + u → b < y + v → a + L ≤ b → u * 2 ≤ L → v * 2 ≤ L → x < y
far x y a b u v L most least gap hu hv = omega arith

module _ (f : Format) (D : ℕ) (some : 0 < D) (fine : D * 2 ≤ 2 ^ low f) where
  -- D times what the numbers about n / D are spaced, in those units
  abbrev spacing : ℕ → ℕ
  spacing n = D * 2 ^ drop (prec f) (n * 2 ^ low f) D

  -- it is half of 1 at most
  half : (n : ℕ) → n * 2 ≤ 2 ^ (prec f - 1) → spacing n * 2 ≤ 2 ^ low f
  half n h = go (drop (prec f) (n * 2 ^ low f) D) refl
    where
      go : (k : ℕ) → drop (prec f) (n * 2 ^ low f) D ≡ k → D * 2 ^ k * 2 ≤ 2 ^ low f
      go zero e = omega arith
      go (suc j) e =
          let L = 2 ^ low f in
          let top = 2 ^ (prec f - 1) in
          let w = n * L / D in
          let reached : 2 ^ (prec f - 1 + suc j) ≤ w =
          size_reaches w (prec f - 1 + suc j) (all_in_use (size w) (prec f) j (two-le_pos (prec f) (two f)) e) in
          let digits : top * (D * 2 ^ suc j * 2) ≡ 2 ^ (prec f - 1 + suc j) * D * 2 = simp (pow-add, mul_assoc, mul_comm, mul_left_comm) in
          le_of_mul-le-mul_left
          (le_trans (le_of_eq digits)
          (le_trans (mul-le-mul_right 2 ((le-div_iff_mul-le some).0 reached))
          (le_trans (le_of_eq (mul_right_comm n L 2)) (mul-le-mul_right L h))))
          (pow_pos (prec f - 1))

  times : (n : ℕ) → grid f n D * D ≡ closest (n * 2 ^ low f) (spacing n) * spacing n
  times n =
      let k = drop (prec f) (n * 2 ^ low f) D in
      mul_assoc (kept (prec f) (n * 2 ^ low f) D) (2 ^ k) D ∙ ap (λ (x : ℕ). kept (prec f) (n * 2 ^ low f) D * x) (mul_comm (2 ^ k) D)

  pub grid_strict : (m n : ℕ) → m * 2 ≤ 2 ^ (prec f - 1) → n * 2 ≤ 2 ^ (prec f - 1) → m < n → grid f m D < grid f n D
  grid_strict m n h k l =
      let L = 2 ^ low f in
      let gap : m * L + L ≤ n * L = le_trans (le_of_eq (sym (suc-mul m L))) (mul-le-mul_right L l) in
      lt_of_mul-lt-mul_right D
      (far (grid f m D * D) (grid f n D * D) (m * L) (n * L) (spacing m) (spacing n) L
      (le_trans (le_of_eq (times m)) (closest_most (m * L) (spacing m)))
      (lt_of_lt_of_le (closest_least (n * L) (spacing n) (mul-pos some (pow_pos (drop (prec f) (n * L) D)))) (le_of_eq (ap (λ (x : ℕ). x + spacing n) (sym (times n)))))
      gap (half m h) (half n k))
