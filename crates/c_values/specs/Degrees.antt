-- An answer in degrees as it crosses the boundary: a binary64 is its bits, which are eight bytes and so two values.
use Rattle.std.specs.Prelude.{List, ◌++◌, ℤ}
use Rattle.std.specs.Float.{binary64}
use Rattle.std.specs.Float.Ieee.{to_bits}
use Rattle.verdict.specs.Answers.{Answer, answered, refused}
use Rattle.x1_questions.specs.Answers.{coordinate_values}
use Rattle.x1_degrees.specs.declared.Surveyed.{Surveyed}
use Rattle.x1_degrees.specs.Results.{DegreesAnswer}
use Rattle.std.specs.Prelude.{Ok, Err}
use Rattle.c_values.specs.Words.{halves}

-- latitude and longitude in milliarcseconds, and then the bits of both in degrees
abbrev pub surveyed_values : Surveyed → List ℤ
surveyed_values s =
    coordinate_values s.coordinate ++ halves (to_bits binary64 s.degrees.latitude) ++ halves (to_bits binary64 s.degrees.longitude)

-- 02: Ticket14.1
abbrev pub degrees_laid : DegreesAnswer → Answer
degrees_laid (Ok s) = answered (surveyed_values s)
degrees_laid (Err t) = refused 6 t
