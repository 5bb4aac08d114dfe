-- THEOREM: the bits say the number: of the numbers that a binary64 holds, no two have the same bits, the zeros' signs told apart; and the bits of
-- degrees, read as a number, are the degrees.
use mathlib.Core.Path.{◌≡◌, sym, ap, ◌∙◌}
use lib.IntN.{ℤ}
use lib.Dec.{T}
use lib.Ieee.{Float, binary64, fits, of_bits, to_bits}
use lib.Ieee.Bits.{of_bits-to_bits}
use Rattle.degrees.specs.Degrees.{degrees_of}
use Rattle.degrees_theorems.proofs.Numbers.{degrees_fit}

pub same_bits : (x y : Float) → T (fits binary64 x) → T (fits binary64 y) → to_bits binary64 x ≡ to_bits binary64 y → x ≡ y
same_bits x y p q e = sym (of_bits-to_bits binary64 x p) ∙ ap (of_bits binary64) e ∙ of_bits-to_bits binary64 y q

pub degrees_of_bits : (z : ℤ) → of_bits binary64 (to_bits binary64 (degrees_of z)) ≡ degrees_of z
degrees_of_bits z = of_bits-to_bits binary64 (degrees_of z) (degrees_fit z)
