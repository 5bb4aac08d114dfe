-- The questions on an X.1 file that are answered in degrees too (02, ticket 14). Refusals are those of the coordinate and of the point.
use Rattle.std.specs.Prelude.{ℕ, List}
use Rattle.degrees.specs.Degrees.{in_degrees}
use Rattle.x1_questions.specs.declared.answers.Coordinate.{Coordinate}
use Rattle.x1_questions.specs.Results.{CoordinateAnswer}
use Rattle.std.specs.Prelude.{Ok, Err}
use Rattle.x1_questions.specs.Questions.{point_coordinate_of, coordinate_asked}
use Rattle.x1_degrees.specs.declared.Surveyed.{Surveyed}
use Rattle.x1_degrees.specs.Results.{DegreesAnswer}

-- the milliarcseconds, and the degrees beside them
-- 01: Form.6
-- 02: Ticket14.3
abbrev pub surveyed_at : Coordinate → Surveyed
surveyed_at c = record { coordinate = c; degrees = in_degrees c.latitude c.longitude }

-- 02: Ticket14.4
abbrev pub with_degrees : CoordinateAnswer → DegreesAnswer
with_degrees (Ok c) = Ok (surveyed_at c)
with_degrees (Err t) = Err t

-- the coordinate at position x of the track with a number
-- 02: Ticket14.2
unfoldable pub degrees_asked : List ℕ → ℕ → ℕ → DegreesAnswer
degrees_asked f number x = with_degrees (coordinate_asked f number x)

-- the coordinate of point j of track i
-- 02: Ticket14.2
unfoldable pub point_degrees_of : List ℕ → ℕ → ℕ → DegreesAnswer
point_degrees_of f i j = with_degrees (point_coordinate_of f i j)
