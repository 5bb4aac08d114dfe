-- What an answer in degrees is (02, ticket 14), as plain facts of the answer alone and of what the questions point, track and coordinate answer.
use Rattle.std.specs.Prelude.{◌≡◌, List, ℕ, T, ℤ, nat_abs, Float}
use Rattle.std.specs.Float.{binary64}
use Rattle.std.specs.Float.Ieee.{of_int, round}
use Rattle.std.specs.Float.Ieee.Scale.{finite}
use Rattle.degrees.specs.Degrees.{degree, degrees_of}
use Rattle.degrees_theorems.specs.Wholes.{negative, IsWhole}
use Rattle.x1_records.specs.declared.Track.{Track}
use Rattle.x1_records.specs.declared.Point.{Point}
use Rattle.std.specs.Prelude.{Ok}
use Rattle.x1_questions.specs.declared.answers.Coordinate.{Coordinate}
use Rattle.x1_questions.specs.Questions.{track_of, point_of, start_plus}
use Rattle.x1_degrees.specs.declared.Surveyed.{Surveyed}

-- x is z milliarcseconds in degrees: one division of z, which is converted exactly; and so the exact quotient, rounded once (`round`: to the nearest,
-- of two equally near ones to the even one). It is finite
-- 02: Ticket14.2
pub record DegreesOf (z : ℤ) (x : Float) : Type 0 where
  pub divided : x ≡ degrees_of z
  pub converted : IsWhole (of_int binary64 z) z
  pub rounded : x ≡ round binary64 (negative z) (nat_abs z) degree
  pub number : T (finite x)

-- both numbers of an answer, of the milliarcseconds beside them
-- 02: Ticket14.1
pub record InDegrees (s : Surveyed) : Type 0 where
  pub latitude : DegreesOf s.coordinate.latitude s.degrees.latitude
  pub longitude : DegreesOf s.coordinate.longitude s.degrees.longitude

-- c is the coordinate of point j of track i: the start of the track that is answered, plus the increment of the point that is answered
-- 02: Ticket14.2
pub record StandsAt (f : List ℕ) (i j : ℕ) (c : Coordinate) : Type 0 where
  pub its_track : Track
  pub its_point : Point
  pub track_answered : track_of f i ≡ Ok its_track
  pub point_answered : point_of f i j ≡ Ok its_point
  pub sums : c ≡ start_plus its_track its_point
