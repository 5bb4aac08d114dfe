-- How far from 0 a sum, a product and a number between two others can be.
use mathlib.Core.Path.{◌≡◌, refl}
use mathlib.Core.Bool.{Bool, true, false, cond}
use Prim.Native.Nat.{ℕ, zero, suc, ◌+◌, ◌-◌, ◌*◌, ◌≤◌, zero-le}
use native.Mathlib.Nat.{le_refl}
use native.Mathlib.Omega.{arith}
use lib.Dec.{ltb, le→leb, leb→le}
use borrow.Author.Tests.{ltb-true}
use lib.IntN.{ℤ, pos, negsuc, neg_ℤ, nat_abs, sub_ℕ, ◌+ℤ◌, ◌-ℤ◌, ◌*ℤ◌}
use lib.Signed.{mag, ◌≤ℤ◌}

-- ---- sums, differences and products

subℕ-size : (a b : ℕ) → nat_abs (sub_ℕ a b) ≤ a + b
subℕ-size a b = either (ltb a b) refl
  where
    either : (t : Bool) → ltb a b ≡ t → nat_abs (cond t (negsuc (b - suc a)) (pos (a - b))) ≤ a + b
    either true e = omega (arith, ltb-true a b e)
    either false e = omega arith

pub sum_size : (x y : ℤ) → nat_abs (x +ℤ y) ≤ nat_abs x + nat_abs y
sum_size (pos a) (pos b) = le_refl (a + b)
sum_size (pos a) (negsuc b) = subℕ-size a (suc b)
sum_size (negsuc a) (pos b) = omega (arith, subℕ-size b (suc a))
sum_size (negsuc a) (negsuc b) = omega arith

pub opposite_size : (x : ℤ) → nat_abs (neg_ℤ x) ≡ nat_abs x
opposite_size (pos zero) = refl
opposite_size (pos (suc a)) = refl
opposite_size (negsuc a) = refl

pub minus_size : (x y : ℤ) → nat_abs (x -ℤ y) ≤ nat_abs x + nat_abs y
minus_size x y = omega (arith, sum_size x (neg_ℤ y), opposite_size y)

pub times_size : (x : ℤ) (t : ℕ) → nat_abs (x *ℤ pos t) ≡ nat_abs x * t
times_size (pos a) t = refl
times_size (negsuc a) t = opposite_size (pos (suc a * t))

-- ---- numbers between two others

-- z is at most m away from 0 where it is between -m and m
pub size_least : (z : ℤ) (m : ℕ) → nat_abs z ≤ m → neg_ℤ (pos m) ≤ℤ z
size_least (pos n) zero h = record { le = le→leb 0 n zero-le }
size_least (pos n) (suc j) h = record { le = tt }
size_least (negsuc n) zero h = omega arith
size_least (negsuc n) (suc j) h = record { le = le→leb n j (omega arith) }

pub size_most : (z : ℤ) (m : ℕ) → nat_abs z ≤ m → z ≤ℤ pos m
size_most (pos n) m h = record { le = le→leb n m h }
size_most (negsuc n) m h = record { le = tt }

pub between_size : (z : ℤ) (m : ℕ) → neg_ℤ (pos m) ≤ℤ z → z ≤ℤ pos m → nat_abs z ≤ m
between_size (pos n) m h k = leb→le n m k.le
between_size (negsuc n) zero h k = absurd h.le
between_size (negsuc n) (suc j) h k = omega (arith, leb→le n j h.le)

-- the size that the machine's range is stated by
pub mag_size : (z : ℤ) → mag z ≤ nat_abs z
mag_size (pos n) = le_refl n
mag_size (negsuc n) = omega arith
