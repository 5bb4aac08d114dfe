-- The whole number nearest a fraction, a half going up, and the coordinate on the way between two points (01, 'Coordinate at a
-- position'). `nearest_of` computes it; `Nearest` says what it is. proofs/Rounding.antt has the theorem that they agree.
use Rattle.std.specs.Prelude.{ℕ, ◌*◌, ℤ, pos, ◌+ℤ◌, ◌-ℤ◌, ◌*ℤ◌, ◌≤ℤ◌, ◌<ℤ◌}
use Rattle.std.specs.Int.Signed.{shr_z}

-- num / den + 1/2, rounded down. As one fraction it is (2 num + den) / (2 den); shr_z divides and rounds down, below 0 too
unfoldable pub nearest_of : ℤ → ℕ → ℤ
nearest_of num den = shr_z (pos 2 *ℤ num +ℤ pos den) (2 * den)

-- r is the whole number nearest num / den, of two equally near ones the upper, in exact whole numbers.
-- Divided by 2 den the fields say r ≤ num / den + 1/2 and num / den + 1/2 < r + 1, so num / den - 1/2 < r ≤ num / den + 1/2:
-- r is at most 1/2 away from num / den, and 1/2 away only where it is the upper of the two whole numbers beside a half.
-- 01: Coord.2, Wrong.3, Wrong.4
pub record Nearest (num : ℤ) (den : ℕ) (r : ℤ) : Type 0 where
  pub reached : (pos (2 * den) *ℤ r) ≤ℤ (pos 2 *ℤ num +ℤ pos den)
  pub unreached : (pos 2 *ℤ num +ℤ pos den) <ℤ (pos (2 * den) *ℤ (r +ℤ pos 1))

-- y0 + (y1 - y0) · t / den, the exact coordinate t of the den centimetres on the way from y0 to y1, as one fraction over den:
-- what stands above the line
-- 01: Coord.1
unfoldable pub exact_of : ℤ → ℤ → ℕ → ℕ → ℤ
exact_of y0 y1 t den = y0 *ℤ pos den +ℤ (y1 -ℤ y0) *ℤ pos t

-- the coordinate that is answered there: the whole number nearest the exact one
unfoldable pub coordinate_of : ℤ → ℤ → ℕ → ℕ → ℤ
coordinate_of y0 y1 t den = nearest_of (exact_of y0 y1 t den) den
