-- How large a sum and a difference of signed numbers can be, and that the machine computes them as they are. `mag` is n both for n and
-- for -(n + 1).
use mathlib.Core.Path.{◌≡◌, ap, ap₂, ◌∙◌, subst⁻¹}
use mathlib.Core.Bool.{Bool, true, false, cond}
use Prim.Native.Nat.{ℕ, zero, suc, ◌+◌, ◌-◌, ◌^◌, ◌≤◌, ◌<◌, zero-le}
use native.Mathlib.Omega.{arith}
use lib.Dec.{ltb}
use lib.IntN.{ℤ, pos, negsuc, neg_ℤ, sub_ℕ, ◌+ℤ◌, ◌-ℤ◌}
use lib.Signed.{mag}
use mir.Syntax.{w64}
use mir.Val.{SFits}
use Rattle.octets.proofs.Signs.{read, kept}

mag_cond : (t : Bool) (x y : ℤ) (m : ℕ) → mag x ≤ m → mag y ≤ m → mag (cond t x y) ≤ m
mag_cond true x y m p q = p
mag_cond false x y m p q = q

mag_sub : (a b m : ℕ) → a ≤ m → b ≤ m → mag (sub_ℕ a b) ≤ m
mag_sub a b m p q = mag_cond (ltb a b) (negsuc (b - suc a)) (pos (a - b)) m (omega arith) (omega arith)

pub mag_add : (x y : ℤ) (m n : ℕ) → mag x ≤ m → mag y ≤ n → mag (x +ℤ y) ≤ m + n + 1
mag_add (pos a) (pos b) m n p q = omega arith
mag_add (pos a) (negsuc b) m n p q = mag_sub a (suc b) (m + n + 1) (omega arith) (omega arith)
mag_add (negsuc a) (pos b) m n p q = mag_sub b (suc a) (m + n + 1) (omega arith) (omega arith)
mag_add (negsuc a) (negsuc b) m n p q = omega arith

mag-neg : (n : ℕ) → mag (neg_ℤ (pos n)) ≤ n
mag-neg zero = zero-le
mag-neg (suc n) = omega arith

mag_opposite : (y : ℤ) (n : ℕ) → mag y ≤ n → mag (neg_ℤ y) ≤ n + 1
mag_opposite (pos a) n p = omega (arith, mag-neg a)
mag_opposite (negsuc a) n p = omega arith

pub mag_minus : (x y : ℤ) (m n : ℕ) → mag x ≤ m → mag y ≤ n → mag (x -ℤ y) ≤ m + (n + 1) + 1
mag_minus x y m n p q = mag_add x (neg_ℤ y) m (n + 1) p (mag_opposite y n q)

-- ---- as the machine computes them, of two numbers that are far from its limits

module _ (x y : ℤ) (p : mag x < 2 ^ 61) (q : mag y < 2 ^ 61) where
  added : read x +ℤ read y ≡ x +ℤ y
  added = ap₂ ◌+ℤ◌ (kept x (omega arith)) (kept y (omega arith))

  taken : read x -ℤ read y ≡ x -ℤ y
  taken = ap₂ ◌-ℤ◌ (kept x (omega arith)) (kept y (omega arith))

  pub add-fits : SFits w64 (read x +ℤ read y)
  add-fits = subst⁻¹ (SFits w64) added (record { sfits = let h = mag_add x y (2 ^ 61) (2 ^ 61) (omega arith) (omega arith) in omega arith })

  pub minus_fits : SFits w64 (read x -ℤ read y)
  minus_fits = subst⁻¹ (SFits w64) taken (record { sfits = let h = mag_minus x y (2 ^ 61) (2 ^ 61) (omega arith) (omega arith) in omega arith })

  pub add_read : read (read x +ℤ read y) ≡ x +ℤ y
  add_read = ap read added ∙ kept (x +ℤ y) (let h = mag_add x y (2 ^ 61) (2 ^ 61) (omega arith) (omega arith) in omega arith)

  pub minus_read : read (read x -ℤ read y) ≡ x -ℤ y
  minus_read = ap read taken ∙ kept (x -ℤ y) (let h = mag_minus x y (2 ^ 61) (2 ^ 61) (omega arith) (omega arith) in omega arith)
