-- The coordinate on the way is the nearest to the exact one, and no other number is. At the start it is the first end, at the end the second,
-- and on the way it lies between the two: it is at most what both are at most, and at least what both are at least. The idea: the exact
-- one is the mean of the two ends, weighted by what is left of the way and what is after.
use mathlib.Core.Path.{◌≡◌, sym, ap, ap₂, ◌∙◌, subst, subst⁻¹}
use Prim.Native.Nat.{ℕ, ◌+◌, ◌-◌, ◌*◌, ◌≤◌, ◌<◌}
use native.Mathlib.Nat.{sub_self}
use native.Mathlib.Omega.{arith}
use lib.IntN.{ℤ, pos, neg_ℤ, nat_abs, ◌+ℤ◌, ◌-ℤ◌, ◌*ℤ◌, +ℤ_assoc, +ℤ_idl, +ℤ_idr, *ℤ-zero}
use lib.Signed.{mag, ◌≤ℤ◌}
use Rattle.rounding.specs.Nearest.{nearest_of, Nearest, exact_of, coordinate_of}
use Rattle.rounding.proofs.Wholes.{times_sum, sum_times, opposite_times, beside, sum_order, times_order}
use Rattle.rounding.proofs.Rounding.{nearest_is, nearest_only, nearest_order, nearest_whole}
use Rattle.rounding.proofs.Sizes.{size_least, size_most, between_size, mag_size}

module _ (y0 y1 : ℤ) (t den : ℕ) where
  pub coordinate_is : 0 < den → Nearest (exact_of y0 y1 t den) den (coordinate_of y0 y1 t den)
  unfolding coordinate_of
  coordinate_is some = nearest_is (exact_of y0 y1 t den) den some

  pub coordinate_only : {r : ℤ} → Nearest (exact_of y0 y1 t den) den r → 0 < den → r ≡ coordinate_of y0 y1 t den
  unfolding coordinate_of
  coordinate_only h some = nearest_only h some

pub at_start : (y0 y1 : ℤ) (den : ℕ) → 0 < den → coordinate_of y0 y1 0 den ≡ y0
unfolding coordinate_of exact_of
at_start y0 y1 den some =
    ap (λ (z : ℤ). nearest_of (y0 *ℤ pos den +ℤ z) den) (*ℤ-zero (y1 -ℤ y0))
    ∙ ap (λ (z : ℤ). nearest_of z den) (+ℤ_idr (y0 *ℤ pos den))
    ∙ nearest_whole y0 den some

module _ (y0 y1 : ℤ) (t den : ℕ) (on : t ≤ den) where
  parts : den ≡ den - t + t
  parts = omega arith

  -- what is left of the way, times the first end, and what is after, times the second
  mean : exact_of y0 y1 t den ≡ y0 *ℤ pos (den - t) +ℤ y1 *ℤ pos t
  unfolding exact_of
  mean =
      ap₂ ◌+ℤ◌
      (ap (λ (n : ℕ). y0 *ℤ pos n) parts ∙ times_sum y0 (den - t) t)
      (sum_times y1 (neg_ℤ y0) t ∙ ap (λ (z : ℤ). y1 *ℤ pos t +ℤ z) (opposite_times y0 t))
      ∙ +ℤ_assoc (y0 *ℤ pos (den - t)) (y0 *ℤ pos t) (y1 *ℤ pos t -ℤ y0 *ℤ pos t)
      ∙ ap (λ (z : ℤ). y0 *ℤ pos (den - t) +ℤ z) (beside (y0 *ℤ pos t) (y1 *ℤ pos t))

  level : (m : ℤ) → m *ℤ pos (den - t) +ℤ m *ℤ pos t ≡ m *ℤ pos den
  level m = sym (times_sum m (den - t) t) ∙ ap (λ (n : ℕ). m *ℤ pos n) (sym parts)

  -- the exact one is at most what both ends are at most, and at least what both are at least
  exact_most : (m : ℤ) → y0 ≤ℤ m → y1 ≤ℤ m → exact_of y0 y1 t den ≤ℤ (m *ℤ pos den)
  exact_most m h k =
      subst (λ (z : ℤ). exact_of y0 y1 t den ≤ℤ z) (level m)
      (subst⁻¹ (λ (z : ℤ). z ≤ℤ (m *ℤ pos (den - t) +ℤ m *ℤ pos t)) mean (sum_order (times_order (den - t) h) (times_order t k)))

  exact_least : (m : ℤ) → m ≤ℤ y0 → m ≤ℤ y1 → (m *ℤ pos den) ≤ℤ exact_of y0 y1 t den
  exact_least m h k =
      subst (λ (z : ℤ). z ≤ℤ exact_of y0 y1 t den) (level m)
      (subst⁻¹ (λ (z : ℤ). (m *ℤ pos (den - t) +ℤ m *ℤ pos t) ≤ℤ z) mean (sum_order (times_order (den - t) h) (times_order t k)))

  -- how far from 0 it is, den times
  pub exact_size : (m : ℕ) → nat_abs y0 ≤ m → nat_abs y1 ≤ m → nat_abs (exact_of y0 y1 t den) ≤ m * den
  exact_size m h k =
      between_size (exact_of y0 y1 t den) (m * den)
      (subst (λ (z : ℤ). z ≤ℤ exact_of y0 y1 t den) (opposite_times (pos m) den) (exact_least (neg_ℤ (pos m)) (size_least y0 m h) (size_least y1 m k)))
      (exact_most (pos m) (size_most y0 m h) (size_most y1 m k))

  module _ (some : 0 < den) where
    pub coordinate_most : (m : ℤ) → y0 ≤ℤ m → y1 ≤ℤ m → coordinate_of y0 y1 t den ≤ℤ m
    unfolding coordinate_of
    coordinate_most m h k =
        subst (λ (z : ℤ). nearest_of (exact_of y0 y1 t den) den ≤ℤ z) (nearest_whole m den some) (nearest_order den some (exact_most m h k))

    pub coordinate_least : (m : ℤ) → m ≤ℤ y0 → m ≤ℤ y1 → m ≤ℤ coordinate_of y0 y1 t den
    unfolding coordinate_of
    coordinate_least m h k =
        subst (λ (z : ℤ). z ≤ℤ nearest_of (exact_of y0 y1 t den) den) (nearest_whole m den some) (nearest_order den some (exact_least m h k))

    -- no farther from 0 than both ends, and so in the machine's range where they are
    pub coordinate_size : (m : ℕ) → nat_abs y0 ≤ m → nat_abs y1 ≤ m → nat_abs (coordinate_of y0 y1 t den) ≤ m
    coordinate_size m h k =
        between_size (coordinate_of y0 y1 t den) m
        (coordinate_least (neg_ℤ (pos m)) (size_least y0 m h) (size_least y1 m k))
        (coordinate_most (pos m) (size_most y0 m h) (size_most y1 m k))

    pub coordinate_mag : (m : ℕ) → nat_abs y0 ≤ m → nat_abs y1 ≤ m → mag (coordinate_of y0 y1 t den) ≤ m
    coordinate_mag m h k = omega (arith, coordinate_size m h k, mag_size (coordinate_of y0 y1 t den))

pub at-end : (y0 y1 : ℤ) (den : ℕ) → 0 < den → coordinate_of y0 y1 den den ≡ y1
unfolding coordinate_of
at-end y0 y1 den some =
    ap (λ (z : ℤ). nearest_of z den)
    (mean y0 y1 den den (omega arith)
    ∙ ap (λ (n : ℕ). y0 *ℤ pos n +ℤ y1 *ℤ pos den) (sub_self den)
    ∙ ap (λ (z : ℤ). z +ℤ y1 *ℤ pos den) (*ℤ-zero y0)
    ∙ +ℤ_idl (y1 *ℤ pos den))
    ∙ nearest_whole y1 den some
