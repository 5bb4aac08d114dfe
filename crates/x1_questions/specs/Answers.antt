-- Each answer on an X.1 file as the one shape of answers (crate verdict): the values in the order in which they are printed, or the fault.
use Rattle.std.specs.Prelude.{List, [], ◌∷◌, ℤ, pos}
use Rattle.verdict.specs.Answers.{Answer, answered, refused}
use Rattle.envelope.specs.Header.{header_values}
use Rattle.x1_records.specs.Tracks.{points_in, height_values}
use Rattle.x1_records.specs.declared.Track.{Track}
use Rattle.x1_records.specs.declared.Point.{Point}
use Rattle.x1_questions.specs.Results.{HeaderAnswer}
use Rattle.std.specs.Prelude.{Ok, Err}
use Rattle.x1_questions.specs.Results.{TrackAnswer}
use Rattle.x1_questions.specs.Results.{PointAnswer}
use Rattle.x1_questions.specs.declared.answers.Coordinate.{Coordinate}
use Rattle.x1_questions.specs.Results.{CoordinateAnswer}

-- structure version, data version, station
-- 01: Form.10
abbrev pub header_answer : HeaderAnswer → Answer
header_answer (Ok h) = answered (header_values h)
header_answer (Err t) = refused 3 t

-- the ten fields of the entry in the order of its table, and how many points the track has
abbrev pub track_values : Track → List ℤ
track_values t =
    pos t.number
    ∷ pos t.property
    ∷ pos t.start_position
    ∷ t.start_latitude
    ∷ t.start_longitude
    ∷ pos t.end_position
    ∷ t.end_latitude
    ∷ t.end_longitude
    ∷ pos t.first
    ∷ pos t.last
    ∷ pos (points_in t.point_size t.first t.last)
    ∷ []

-- 01: Form.10
abbrev pub track_answer : TrackAnswer → Answer
track_answer (Ok t) = answered (track_values t)
track_answer (Err t) = refused 11 t

-- position, both increments, heading, near flag; whether there is a height, and the height
abbrev pub point_values : Point → List ℤ
point_values p =
    pos p.position ∷ p.latitude_increment ∷ p.longitude_increment ∷ p.heading ∷ pos p.near ∷ height_values p.height

-- 01: Form.10
abbrev pub point_answer : PointAnswer → Answer
point_answer (Ok p) = answered (point_values p)
point_answer (Err t) = refused 7 t

-- latitude, longitude
abbrev pub coordinate_values : Coordinate → List ℤ
coordinate_values c = c.latitude ∷ c.longitude ∷ []

-- 01: Form.10
abbrev pub coordinate_answer : CoordinateAnswer → Answer
coordinate_answer (Ok c) = answered (coordinate_values c)
coordinate_answer (Err t) = refused 2 t
