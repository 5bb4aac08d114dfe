-- Which of an answer's values the header reads by yard_signed and which by yard_unsigned, when a value fits its four bytes, and that it
-- comes back from them. `true` stands for yard_signed, `false` for yard_unsigned. Also what yard_double reads.
use Rattle.std.specs.Prelude.{ℕ, suc, ◌+◌, ◌*◌, ◌<◌, ◌≡◌, Bool, true, false, List, [], ◌∷◌, ℤ, pos, negsuc, length, get_or, Float}
use Rattle.std.specs.Int.Signed.{mag}
use Rattle.std.specs.Float.{binary64}
use Rattle.std.specs.Float.Ieee.{of_bits}
use Rattle.octets.specs.Octets.{num_at, signed_at, half_of}
use Rattle.verdict.specs.Answers.{Answer, answered, refused, answer_values}
use Rattle.x1_degrees.specs.Results.{DegreesAnswer}
use Rattle.x1_degrees.specs.Answers.{degrees_in}
use Rattle.c_values.specs.Words.{over_word, number_part, value_size}
use Rattle.c_values.specs.Degrees.{degrees_laid}
use Rattle.c_values.specs.Shown.{shown, leaves}

-- ---- the values of each question, in the order of include/yard.h

-- structure version, data version, station
abbrev pub header1_signed : List Bool
header1_signed = false ∷ false ∷ false ∷ []

-- structure version, data version, station; the name's place and how many bytes it has
abbrev pub header2_signed : List Bool
header2_signed = false ∷ false ∷ false ∷ false ∷ false ∷ []

-- number, property; position, latitude and longitude of the start, and of the end; the first offset, the last one, and how many points
abbrev pub track_signed : List Bool
track_signed = false ∷ false ∷ false ∷ true ∷ true ∷ false ∷ true ∷ true ∷ false ∷ false ∷ false ∷ []

-- position, both increments, heading, near flag; whether there is a height, and the height
abbrev pub point_signed : List Bool
point_signed = false ∷ true ∷ true ∷ true ∷ false ∷ false ∷ true ∷ []

-- latitude, longitude
abbrev pub coordinate_signed : List Bool
coordinate_signed = true ∷ true ∷ []

-- latitude, longitude; the low and the high half of the latitude in degrees, and of the longitude
abbrev pub degrees_signed : List Bool
degrees_signed = true ∷ true ∷ false ∷ false ∷ false ∷ false ∷ []

-- the kind, and eleven values of its own
abbrev pub record_signed : List Bool
record_signed = false ∷ false ∷ false ∷ false ∷ false ∷ false ∷ false ∷ false ∷ false ∷ false ∷ false ∷ false ∷ []

-- the number of routes, the words used, the number of all partial walks
abbrev pub routes_signed : List Bool
routes_signed = false ∷ false ∷ false ∷ []

-- ---- one value

-- its four bytes can hold it, with a sign or without. `mag` is n both for n and for -(n + 1)
abbrev pub Fits : Bool → ℤ → Type 0
Fits true z = mag z < half_of value_size
Fits false (pos n) = n < over_word
Fits false (negsuc n) = ⊥

-- what yard_signed or yard_unsigned reads from the four bytes at a place is the value
abbrev pub Back : Bool → List ℕ → ℕ → ℤ → Type 0
Back true out p z = signed_at value_size out p ≡ z
Back false out p z = pos (num_at value_size out p) ≡ z

-- ---- all values of an answer

-- there are as many as the header has, and each fits
abbrev pub AllFit : List Bool → List ℤ → Type 0
AllFit [] [] = Unit {0}
AllFit [] (z ∷ zs) = ⊥
AllFit (s ∷ ss) [] = ⊥
AllFit (s ∷ ss) (z ∷ zs) = Fits s z × AllFit ss zs

abbrev pub AnswerFits : List Bool → Answer → Type 0
AnswerFits signs (answered values) = AllFit signs values
AnswerFits signs (refused n t) = Unit {0}

-- where the number that is returned says that there is an answer, the value of each index comes back from the output
abbrev pub AnswerBack : List Bool → Answer → List ℕ → Type 0
AnswerBack signs a out =
    number_part (shown a out) ≡ 0 → (i : ℕ) → i < length signs
    → Back (get_or signs i false) (leaves a out) (value_size * i) (get_or (answer_values a) i (pos 0))

-- ---- a binary64

-- what yard_double reads: the value of an index is the low half of a number's bits, that of the next index the high half
-- 02: Ticket14.1
abbrev pub double_at : List ℕ → ℕ → Float
double_at out i = of_bits binary64 (num_at value_size out (value_size * i) + over_word * num_at value_size out (value_size * suc i))

-- the index at which the header has the latitude in degrees, and that of the longitude
abbrev pub latitude_degrees : ℕ
latitude_degrees = 2

abbrev pub longitude_degrees : ℕ
longitude_degrees = 4

-- where the number that is returned says that there is an answer, its latitude and its longitude in degrees come back from the output
-- 02: Ticket14.1
abbrev pub DegreesBack : DegreesAnswer → List ℕ → Type 0
DegreesBack a out =
    number_part (shown (degrees_laid a) out) ≡ 0
    → (double_at (leaves (degrees_laid a) out) latitude_degrees ≡ (degrees_in a).latitude)
    × (double_at (leaves (degrees_laid a) out) longitude_degrees ≡ (degrees_in a).longitude)
