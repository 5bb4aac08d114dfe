-- `nearest_of num den` is the whole number nearest num / den, a half going up, and there is no other: `Nearest` says that it is a fraction
-- rounded down, and proofs/Quotients.antt that this is one number. A larger fraction is not rounded to a smaller number, and a whole
-- number is rounded to itself.
use mathlib.Core.Path.{◌≡◌, refl, sym, ap, ap₂, ◌∙◌, subst, subst⁻¹}
use Prim.Native.Nat.{ℕ, suc, ◌+◌, ◌*◌, ◌≤◌, ◌<◌}
use native.Mathlib.Omega.{arith}
use lib.IntN.{ℤ, pos, negsuc, nat_abs, ◌+ℤ◌, ◌-ℤ◌, ◌*ℤ◌, +ℤ_assoc, -ℤ-+ℤ_cancel, *ℤ_comm}
use lib.Signed.{◌≤ℤ◌, ◌<ℤ◌, ≤ℤ_refl}
use Rattle.rounding.specs.Nearest.{nearest_of, Nearest}
use Rattle.rounding.proofs.Wholes.{sum_times, twice, beside, further, beyond, sum_order, times_order, less, less_or_same}
use Rattle.rounding.proofs.Quotients.{floor_reached, floor_unreached, floor_only, floor_order}

pub nearest_is : (num : ℤ) (den : ℕ) → 0 < den → Nearest num den (nearest_of num den)
unfolding nearest_of
nearest_is num den some =
    let z = pos 2 *ℤ num +ℤ pos den in
    record { reached = floor_reached (2 * den) (omega arith) z; unreached = floor_unreached (2 * den) (omega arith) z }

pub nearest_only : {num : ℤ} {den : ℕ} {r : ℤ} → Nearest num den r → 0 < den → r ≡ nearest_of num den
unfolding nearest_of
nearest_only {num} {den} {r} h some = floor_only (2 * den) (omega arith) (pos 2 *ℤ num +ℤ pos den) r h.reached h.unreached

pub nearest_order : {x y : ℤ} (den : ℕ) → 0 < den → x ≤ℤ y → nearest_of x den ≤ℤ nearest_of y den
unfolding nearest_of
nearest_order {x} {y} den some h = floor_order (2 * den) (omega arith) (pos 2 *ℤ x +ℤ pos den) (pos 2 *ℤ y +ℤ pos den) (sum_order double (≤ℤ_refl (pos den)))
  where
    double : (pos 2 *ℤ x) ≤ℤ (pos 2 *ℤ y)
    double = rw (*ℤ_comm (pos 2) x, *ℤ_comm (pos 2) y) (times_order 2 h)

-- 2 den (m + 1) is (2 den m + den) + den
next : (m : ℤ) (den : ℕ) → pos (2 * den) *ℤ (m +ℤ pos 1) ≡ pos (2 * den) *ℤ m +ℤ pos den +ℤ pos den
next m den =
    let e : 1 * (2 * den) ≡ den + den = omega arith in
    *ℤ_comm (pos (2 * den)) (m +ℤ pos 1)
    ∙ sum_times m (pos 1) (2 * den)
    ∙ ap₂ ◌+ℤ◌ (*ℤ_comm m (pos (2 * den))) (ap pos e)
    ∙ sym (+ℤ_assoc (pos (2 * den) *ℤ m) (pos den) (pos den))

pub nearest_whole : (m : ℤ) (den : ℕ) → 0 < den → nearest_of (m *ℤ pos den) den ≡ m
nearest_whole m den some = sym (nearest_only (record { reached = reached; unreached = unreached }) some)
  where
    reached : (pos (2 * den) *ℤ m) ≤ℤ (pos 2 *ℤ (m *ℤ pos den) +ℤ pos den)
    reached = subst⁻¹ (λ (z : ℤ). (pos (2 * den) *ℤ m) ≤ℤ (z +ℤ pos den)) (twice m den) (further (pos (2 * den) *ℤ m) den)

    unreached : (pos 2 *ℤ (m *ℤ pos den) +ℤ pos den) <ℤ (pos (2 * den) *ℤ (m +ℤ pos 1))
    unreached =
        subst⁻¹ (λ (z : ℤ). (z +ℤ pos den) <ℤ (pos (2 * den) *ℤ (m +ℤ pos 1))) (twice m den)
        (subst⁻¹ (λ (z : ℤ). (pos (2 * den) *ℤ m +ℤ pos den) <ℤ z) (next m den) (beyond (pos (2 * den) *ℤ m +ℤ pos den) den some))

-- ---- the same, said by the distance: r is at most a half away from num / den, and where it is a half away it is above

-- how far r is from num / den, 2 den times, so that a half is den
abbrev pub away : ℤ → ℕ → ℤ → ℤ
away num den r = pos (2 * den) *ℤ r -ℤ pos 2 *ℤ num

module _ {num : ℤ} {den : ℕ} {r : ℤ} (h : Nearest num den r) where
  above : (n : ℕ) → away num den r ≡ pos n → n ≤ den
  above n e = less_or_same (pos 2 *ℤ num) n den (subst (λ (z : ℤ). z ≤ℤ (pos 2 *ℤ num +ℤ pos den)) there h.reached)
    where
      there : pos (2 * den) *ℤ r ≡ pos 2 *ℤ num +ℤ pos n
      there = sym (beside (pos 2 *ℤ num) (pos (2 * den) *ℤ r)) ∙ ap (λ (z : ℤ). pos 2 *ℤ num +ℤ z) e

  below : (n : ℕ) → away num den r ≡ negsuc n → suc n < den
  below n e = omega (arith, less (pos (2 * den) *ℤ r) (suc n + den) (den + den) nearer)
    where
      there : pos 2 *ℤ num ≡ pos (2 * den) *ℤ r +ℤ pos (suc n)
      there =
          sym (-ℤ-+ℤ_cancel (pos 2 *ℤ num) (pos (suc n)))
          ∙ ap (λ (z : ℤ). z +ℤ pos (suc n)) (sym (ap (λ (z : ℤ). pos 2 *ℤ num +ℤ z) e) ∙ beside (pos 2 *ℤ num) (pos (2 * den) *ℤ r))

      nearer : (pos (2 * den) *ℤ r +ℤ pos (suc n + den)) <ℤ (pos (2 * den) *ℤ r +ℤ pos (den + den))
      nearer =
          subst (λ (z : ℤ). z <ℤ (pos (2 * den) *ℤ r +ℤ pos (den + den)))
          (ap (λ (z : ℤ). z +ℤ pos den) there ∙ +ℤ_assoc (pos (2 * den) *ℤ r) (pos (suc n)) (pos den))
          (subst (λ (z : ℤ). (pos 2 *ℤ num +ℤ pos den) <ℤ z) (next r den ∙ +ℤ_assoc (pos (2 * den) *ℤ r) (pos den) (pos den)) h.unreached)

  side : (d : ℤ) → away num den r ≡ d → (nat_abs d ≤ den) × (nat_abs d ≡ den → d ≡ pos den)
  side (pos n) e = (above n e, λ q. ap pos q)
  side (negsuc n) e = let g = below n e in (omega arith, λ q. absurd (omega arith))

  pub nearest_half : nat_abs (away num den r) ≤ den
  nearest_half = (side (away num den r) refl).0

  pub nearest_upper : nat_abs (away num den r) ≡ den → away num den r ≡ pos den
  nearest_upper = (side (away num den r) refl).1
