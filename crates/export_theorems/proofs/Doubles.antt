-- THEOREM: where degrees are answered, the header's yard_double reads them from the output: both halves of their bits come back, and the bits say
-- the number.
use Prim.Native.Nat.{ℕ, suc, ◌+◌, ◌*◌, ◌/◌, ◌%◌}
use native.Mathlib.Omega.{arith}
use native.Mathlib.Nat.{mod-add-div}
use mathlib.Core.Path.{◌≡◌, ap, ◌∙◌}
use mathlib.Core.Bool.{false}
use mathlib.Core.List.{List}
use lib.IntN.{pos, nat_abs}
use lib.Ieee.{binary64, of_bits, to_bits}
use Rattle.octets.specs.Octets.{num_at}
use Rattle.degrees.specs.Degrees.{degrees_of}
use Rattle.degrees_theorems.proofs.Bits.{degrees_of_bits}
use Rattle.x1_questions.specs.Results.{CoordinateAnswer}
use Rattle.std.specs.Prelude.{Ok, Err}
use Rattle.x1_questions.specs.Questions.{point_coordinate_of, coordinate_asked}
use Rattle.x1_degrees.specs.Questions.{with_degrees, degrees_asked, point_degrees_of}
use Rattle.c_values.specs.Words.{over_word, value_size}
use Rattle.c_values.specs.Degrees.{degrees_laid}
use Rattle.export_theorems.specs.Fit.{degrees_signed, latitude_degrees, longitude_degrees, Back, AnswerBack, double_at, DegreesBack}
use Rattle.export_theorems.proofs.Fit.{degrees_back, point_degrees_back}

-- where both halves of some bits come back, the number that they say is read
halves_back : (out : List ℕ) (i bits : ℕ) → Back false out (value_size * i) (pos (bits % over_word)) → Back false out (value_size * suc i) (pos (bits / over_word)) → double_at out i ≡ of_bits binary64 bits
halves_back out i bits low high =
    let l = ap nat_abs low in
    let h = ap nat_abs high in
    let whole : num_at value_size out (value_size * i) + over_word * num_at value_size out (value_size * suc i) ≡ bits = omega (arith, l, h, mod-add-div bits over_word) in
    ap (of_bits binary64) whole

-- a refusal's values are 0, and 0 is +0.0
doubles_back : (a : CoordinateAnswer) (out : List ℕ) → AnswerBack degrees_signed (degrees_laid (with_degrees a)) out → DegreesBack (with_degrees a) out
unfolding of_bits
doubles_back (Ok c) out back e =
    let latitude = to_bits binary64 (degrees_of c.latitude) in
    let longitude = to_bits binary64 (degrees_of c.longitude) in (
      halves_back _ latitude_degrees latitude (back e 2 (omega arith)) (back e 3 (omega arith)) ∙ degrees_of_bits c.latitude,
      halves_back _ longitude_degrees longitude (back e 4 (omega arith)) (back e 5 (omega arith)) ∙ degrees_of_bits c.longitude,
    )
doubles_back (Err t) out back e = (
  halves_back _ latitude_degrees 0 (back e 2 (omega arith)) (back e 3 (omega arith)),
  halves_back _ longitude_degrees 0 (back e 4 (omega arith)) (back e 5 (omega arith)),
)

module _ (out f : List ℕ) where
  pub degrees_double : (number x : ℕ) → DegreesBack (degrees_asked f number x) out
  unfolding degrees_asked
  degrees_double number x = doubles_back (coordinate_asked f number x) out (degrees_back out f number x)

  pub point_degrees_double : (i j : ℕ) → DegreesBack (point_degrees_of f i j) out
  unfolding point_degrees_of
  point_degrees_double i j = doubles_back (point_coordinate_of f i j) out (point_degrees_back out f i j)
