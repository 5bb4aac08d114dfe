-- What `coordinate` answers for every two numbers and every way between them: the coordinate where the numbers are inside the limits, and
-- else none. The limits hold all that 01 allows: coordinates within ±648000000, positions at most 2147483647.
use Rattle.std.specs.Prelude.{ℕ, ◌≤◌, ◌<◌, Bool, cond, ◌&&◌, leb, ltb, ℤ, nat_abs, Option, Some, None}
use Rattle.rounding.specs.Nearest.{coordinate_of}

-- how far from 0 a coordinate may be, and how long a way
abbrev pub farthest : ℕ
farthest = 2147483648

abbrev pub longest : ℕ
longest = 2147483647

-- both ends are near enough, the way has a length, is short enough, and t is on it
unfoldable pub inside_of : ℤ → ℤ → ℕ → ℕ → Bool
inside_of y0 y1 t den = leb (nat_abs y0) farthest && (leb (nat_abs y1) farthest && (leb t den && (ltb 0 den && leb den longest)))

-- the answer
unfoldable pub way_of : ℤ → ℤ → ℕ → ℕ → Option ℤ
way_of y0 y1 t den = cond (inside_of y0 y1 t den) (Some (coordinate_of y0 y1 t den)) None

-- the same limits, as facts
pub record Limits (y0 y1 : ℤ) (t den : ℕ) : Type 0 where
  pub first : nat_abs y0 ≤ farthest
  pub last : nat_abs y1 ≤ farthest
  pub on : t ≤ den
  pub some : 0 < den
  pub short : den ≤ longest
