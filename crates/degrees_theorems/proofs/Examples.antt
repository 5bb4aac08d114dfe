-- THEOREM: the ticket's examples, with their bits.
use mathlib.Core.Path.{◌≡◌, refl}
use mathlib.Core.Bool.{false}
use lib.IntN.{pos, neg_ℤ}
use lib.Ieee.{fin, binary64, of_int, div, of_bits, to_bits}
use Rattle.degrees.specs.Degrees.{degrees_of}

pub ninety : degrees_of (pos 324000000) ≡ of_bits binary64 0x4056800000000000
unfolding degrees_of div of_int of_bits
ninety = refl

pub ninety_bits : to_bits binary64 (degrees_of (pos 324000000)) ≡ 0x4056800000000000
unfolding degrees_of div of_int to_bits
ninety_bits = refl

pub minus_180 : degrees_of (neg_ℤ (pos 648000000)) ≡ of_bits binary64 0xc066800000000000
unfolding degrees_of div of_int of_bits
minus_180 = refl

pub minus_180_bits : to_bits binary64 (degrees_of (neg_ℤ (pos 648000000))) ≡ 0xc066800000000000
unfolding degrees_of div of_int to_bits
minus_180_bits = refl

pub nought : degrees_of (pos 0) ≡ fin false 0 (pos 0)
unfolding degrees_of div of_int
nought = refl

pub nought_of_bits : degrees_of (pos 0) ≡ of_bits binary64 0
unfolding degrees_of div of_int of_bits
nought_of_bits = refl

pub nought_bits : to_bits binary64 (degrees_of (pos 0)) ≡ 0
unfolding degrees_of div of_int to_bits
nought_bits = refl
