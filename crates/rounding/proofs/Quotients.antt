-- `shr_z z d` is the largest whole number that is at most z / d, and there is no other.
use mathlib.Core.Path.{◌≡◌, refl, sym, ap, ◌∙◌, subst, subst⁻¹}
use Prim.Native.Nat.{ℕ, zero, suc, ◌+◌, ◌*◌, ◌/◌, ◌≤◌, ◌<◌}
use native.Mathlib.Nat.{mul-div-le, lt-mul-div-succ, div-eq_of_lt-le, mul_comm, le-div_iff_mul-le, div-mul-le_self, le_trans}
use native.Mathlib.Omega.{arith}
use lib.Dec.{le→leb, leb→le, lt→ltb, ltb→lt}
use lib.IntN.{ℤ, pos, negsuc, neg_ℤ, ◌+ℤ◌, ◌*ℤ◌, +ℤ_one}
use lib.Signed.{shr_z, ◌≤ℤ◌, ◌<ℤ◌}
use Rattle.rounding.proofs.Wholes.{times_opposite}

-- ---- the order of numbers below 0

low : (k a : ℕ) → a < k → neg_ℤ (pos k) ≤ℤ negsuc a
low zero a h = omega arith
low (suc j) a h = record { le = le→leb a j (omega arith) }

low_back : (k a : ℕ) → neg_ℤ (pos k) ≤ℤ negsuc a → a < k
low_back zero a h = absurd h.le
low_back (suc j) a h = let g = leb→le a j h.le in omega arith

high : (k a : ℕ) → k ≤ a → negsuc a <ℤ neg_ℤ (pos k)
high zero a h = record { lt = tt }
high (suc j) a h = record { lt = lt→ltb j a (omega arith) }

high_back : (k a : ℕ) → negsuc a <ℤ neg_ℤ (pos k) → k ≤ a
high_back zero a h = omega arith
high_back (suc j) a h = let g = ltb→lt j a h.lt in omega arith

not-below : (k a : ℕ) → pos a <ℤ neg_ℤ (pos k) → ⊥
not-below zero a h = let g = ltb→lt a 0 h.lt in omega arith
not-below (suc j) a h = h.lt

-- d times one more than -(q + 1)
next : (q : ℕ) → negsuc q +ℤ pos 1 ≡ neg_ℤ (pos q)
next zero = refl
next (suc p) = +ℤ_one (negsuc (suc p))

times_next : (d q : ℕ) → pos d *ℤ (negsuc q +ℤ pos 1) ≡ neg_ℤ (pos (d * q))
times_next d q = ap (λ (z : ℤ). pos d *ℤ z) (next q) ∙ times_opposite d q

-- ---- rounded down, by the sign

module _ (d : ℕ) (some : 0 < d) where
  pub floor_reached : (z : ℤ) → (pos d *ℤ shr_z z d) ≤ℤ z
  floor_reached (pos a) = record { le = le→leb (d * (a / d)) a (mul-div-le a d) }
  floor_reached (negsuc a) =
      let e : suc (a / d) ≡ a / d + 1 = omega arith in
      low (d * suc (a / d)) a (subst⁻¹ (λ (n : ℕ). a < d * n) e (lt-mul-div-succ a some))

  pub floor_unreached : (z : ℤ) → z <ℤ (pos d *ℤ (shr_z z d +ℤ pos 1))
  floor_unreached (pos a) = record { lt = lt→ltb a (d * (a / d + 1)) (lt-mul-div-succ a some) }
  floor_unreached (negsuc a) =
      subst⁻¹ (λ (z : ℤ). negsuc a <ℤ z) (times_next d (a / d)) (high (d * (a / d)) a (mul-div-le a d))

  -- the quotient of a is b, from d b ≤ a < d (b + 1)
  quotient : (a b n : ℕ) → n ≡ b + 1 → d * b ≤ a → a < d * n → b ≡ a / d
  quotient a b n e h k =
      sym
      (div-eq_of_lt-le d
      (subst (λ (i : ℕ). i ≤ a) (mul_comm d b) h)
      (subst (λ (i : ℕ). a < i) (mul_comm d n ∙ ap (λ (i : ℕ). i * d) e) k))

  pub floor_only : (z r : ℤ) → (pos d *ℤ r) ≤ℤ z → z <ℤ (pos d *ℤ (r +ℤ pos 1)) → r ≡ shr_z z d
  floor_only (pos a) (pos b) h k = ap pos (quotient a b (b + 1) refl (leb→le (d * b) a h.le) (ltb→lt a (d * (b + 1)) k.lt))
  floor_only (pos a) (negsuc b) h k = absurd (not-below (d * b) a (subst (λ (z : ℤ). pos a <ℤ z) (times_next d b) k))
  floor_only (negsuc a) (pos b) h k = absurd h.le
  floor_only (negsuc a) (negsuc b) h k =
      ap negsuc
      (quotient a b (suc b) (omega arith)
      (high_back (d * b) a (subst (λ (z : ℤ). negsuc a <ℤ z) (times_next d b) k))
      (low_back (d * suc b) a h))

  quotients : (a b : ℕ) → a ≤ b → a / d ≤ b / d
  quotients a b h = (le-div_iff_mul-le some).1 (le_trans (div-mul-le_self a d) h)

  -- a larger number is not rounded to a smaller one
  pub floor_order : (x y : ℤ) → x ≤ℤ y → shr_z x d ≤ℤ shr_z y d
  floor_order (pos a) (pos b) h = record { le = le→leb (a / d) (b / d) (quotients a b (leb→le a b h.le)) }
  floor_order (pos a) (negsuc b) h = absurd h.le
  floor_order (negsuc a) (pos b) h = record { le = tt }
  floor_order (negsuc a) (negsuc b) h = record { le = le→leb (b / d) (a / d) (quotients b a (leb→le b a h.le)) }
