-- The machine's steps on signed numbers. Each operation reads its operands back from their bits, and each step is right: it gives the number
-- that the definition has, and that number is in the machine's range.
use mathlib.Core.Path.{◌≡◌, ap, ap₂, ◌∙◌, subst⁻¹}
use Prim.Native.Nat.{ℕ, ◌*◌, ◌^◌, ◌≤◌, ◌<◌}
use native.Mathlib.Nat.{mul-le-mul_right}
use native.Mathlib.Omega.{arith}
use lib.IntN.{ℤ, pos, nat_abs, ◌+ℤ◌, ◌-ℤ◌, ◌*ℤ◌, *ℤ_comm}
use lib.Signed.{mag}
use mir.Syntax.{w64}
use mir.Val.{to_z, SFits}
use mir.Facts.{to_z_pos}
use Rattle.octets.proofs.Signs.{kept, read}
use Rattle.rounding.specs.Nearest.{exact_of}
use Rattle.rounding.specs.Way.{farthest, longest, Limits}
use Rattle.rounding.proofs.Sizes.{sum_size, minus_size, times_size, mag_size}
use Rattle.rounding.proofs.Ends.{exact_size}

-- a step gives y, which is in range
pub record Right (x y : ℤ) : Type 0 where
  pub same : x ≡ y
  pub small : mag y < 2 ^ 63

pub fit : {x y : ℤ} → Right x y → SFits w64 x
fit r = subst⁻¹ (SFits w64) r.same (record { sfits = r.small })

pub reads : {x y : ℤ} → Right x y → read x ≡ y
reads {x} {y} r = ap read r.same ∙ kept y r.small

-- ---- the nearest

module _ (num : ℤ) (den : ℕ) (near : nat_abs num ≤ farthest * den) (short : den ≤ longest) where
  num_read : read num ≡ num
  num_read = kept num (omega (arith, mag_size num))

  double_size : nat_abs (pos 2 *ℤ num) ≡ nat_abs num * 2
  double_size = ap nat_abs (*ℤ_comm (pos 2) num) ∙ times_size num 2

  pub double : Right (pos 2 *ℤ read num) (pos 2 *ℤ num)
  double =
      record {
        same = ap (λ (z : ℤ). pos 2 *ℤ z) num_read;
        small = omega (arith, mag_size (pos 2 *ℤ num), double_size);
      }

  pub raised : Right (read (pos 2 *ℤ read num) +ℤ to_z w64 den) (pos 2 *ℤ num +ℤ pos den)
  raised =
      record {
        same = ap₂ ◌+ℤ◌ (reads double) (to_z_pos w64 (omega arith));
        small = omega (arith, mag_size (pos 2 *ℤ num +ℤ pos den), sum_size (pos 2 *ℤ num) (pos den), double_size);
      }

-- ---- the exact coordinate

module _ {y0 y1 : ℤ} {t den : ℕ} (l : Limits y0 y1 t den) where
  y0_read : read y0 ≡ y0
  y0_read = kept y0 (omega (arith, l.first, mag_size y0))

  y1_read : read y1 ≡ y1
  y1_read = kept y1 (omega (arith, l.last, mag_size y1))

  pub start : Right (read y0 *ℤ to_z w64 den) (y0 *ℤ pos den)
  start =
      record {
        same = ap₂ ◌*ℤ◌ y0_read (to_z_pos w64 (omega arith));
        small = omega (arith, mag_size (y0 *ℤ pos den), times_size y0 den, mul-le-mul_right den l.first);
      }

  rise_size : nat_abs (y1 -ℤ y0) ≤ 2 * farthest
  rise_size = omega (arith, minus_size y1 y0, l.first, l.last)

  pub rise : Right (read y1 -ℤ read y0) (y1 -ℤ y0)
  rise = record { same = ap₂ ◌-ℤ◌ y1_read y0_read; small = omega (arith, mag_size (y1 -ℤ y0), rise_size) }

  pub part : Right (read (read y1 -ℤ read y0) *ℤ to_z w64 t) ((y1 -ℤ y0) *ℤ pos t)
  part =
      record {
        same = ap₂ ◌*ℤ◌ (reads rise) (to_z_pos w64 (omega arith));
        small = omega (arith, mag_size ((y1 -ℤ y0) *ℤ pos t), times_size (y1 -ℤ y0) t, mul-le-mul_right t rise_size, l.on, l.short);
      }

  pub exact : Right (read (read y0 *ℤ to_z w64 den) +ℤ read (read (read y1 -ℤ read y0) *ℤ to_z w64 t)) (exact_of y0 y1 t den)
  unfolding exact_of
  exact =
      record {
        same = ap₂ ◌+ℤ◌ (reads start) (reads part);
        small = omega (arith, mag_size (exact_of y0 y1 t den), exact_size y0 y1 t den l.on farthest l.first l.last, l.short);
      }
