-- Whole numbers among the binary64 numbers: what the theorems on degrees say by.
use Rattle.std.specs.Prelude.{ℕ, ◌^◌, Bool, true, false, ℤ, pos, negsuc, nat_abs, Float}
use Rattle.std.specs.Float.Ieee.Exact.{HasValue}

-- a whole number is below 0
abbrev pub negative : ℤ → Bool
negative (pos n) = false
negative (negsuc n) = true

-- x is finite and exactly the whole number z, and has its sign; the zero is +0.0
-- 02: Ticket14.2
abbrev pub IsWhole : Float → ℤ → Type 0
IsWhole x z = HasValue x (negative z) (nat_abs z) 1

-- up to here, either way, a binary64 holds every whole number
abbrev pub counted : ℕ
counted = 2 ^ 53

-- up to here, either way, the binary64 numbers tell degrees of different whole milliarcseconds apart
abbrev pub told_apart : ℕ
told_apart = 2 ^ 51
