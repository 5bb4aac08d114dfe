-- An answer in degrees: its parts, of which a refusal's are 0, and the answer as the one shape of answers (crate verdict), where a binary64 is its
-- bits.
use Rattle.std.specs.Prelude.{false, List, [], ◌∷◌, ℤ, pos, Float}
use Rattle.std.specs.Float.{fin, binary64}
use Rattle.std.specs.Float.Ieee.{to_bits}
use Rattle.verdict.specs.Answers.{Answer, answered, refused}
use Rattle.degrees.specs.declared.Degrees.{Degrees}
use Rattle.x1_questions.specs.declared.answers.Coordinate.{Coordinate}
use Rattle.x1_degrees.specs.declared.Surveyed.{Surveyed}
use Rattle.x1_degrees.specs.Results.{DegreesAnswer}
use Rattle.std.specs.Prelude.{Ok, Err}

-- +0.0
abbrev pub zero : Float
zero = fin false 0 (pos 0)

-- 02: Ticket14.4
abbrev pub coordinate_in : DegreesAnswer → Coordinate
coordinate_in (Ok s) = s.coordinate
coordinate_in (Err t) = record { latitude = pos 0; longitude = pos 0 }

-- 02: Ticket14.4
abbrev pub degrees_in : DegreesAnswer → Degrees
degrees_in (Ok s) = s.degrees
degrees_in (Err t) = record { latitude = zero; longitude = zero }

-- latitude and longitude in milliarcseconds, and then the bits of both in degrees
-- 02: Ticket14.3
abbrev pub degrees_values : Surveyed → List ℤ
degrees_values s =
    s.coordinate.latitude
    ∷ s.coordinate.longitude
    ∷ pos (to_bits binary64 s.degrees.latitude)
    ∷ pos (to_bits binary64 s.degrees.longitude)
    ∷ []

-- 01: Form.10
abbrev pub degrees_answer : DegreesAnswer → Answer
degrees_answer (Ok s) = answered (degrees_values s)
degrees_answer (Err t) = refused 4 t
