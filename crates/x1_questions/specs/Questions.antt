-- X.1's questions (01: 'A question ..'; the coordinate of a point is 02's, ticket 14). Each first gives its file's own fault. An index that
-- names nothing is 13; a coordinate's absent track is 11 and a position beyond the end 12; all with place 0. Indexes count from 0. `size` is
-- the size of a point.
use Rattle.std.specs.Prelude.{ℕ, cond, List, ltb, leb, ◌+ℤ◌}
use Rattle.verdict.specs.declared.Reason.TheVariants as reason
use Rattle.verdict.specs.Answers.{refusal, after_verdict}
use Rattle.envelope.specs.Header.{header_in}
use Rattle.x1_records.specs.Tracks.{track_at, point_at, points_in}
use Rattle.x1_records.specs.declared.Track.{Track}
use Rattle.x1_records.specs.declared.Point.{Point}
use Rattle.x1_layout.specs.Layout.{size_of, count_of, first_of, last_of}
use Rattle.x1_verdict.specs.Facts.{verdict_of}
use Rattle.x1_obeys.specs.Obeys.{entry_place, point_place}
use Rattle.x1_lookup.specs.Lookup.{find_track}
use Rattle.std.specs.Prelude.{Option, Some, None}
use Rattle.x1_questions.specs.Stretch.{end_position_of, stretch_of, coordinate_on}
use Rattle.x1_questions.specs.Results.{HeaderAnswer}
use Rattle.std.specs.Prelude.{Ok, Err}
use Rattle.x1_questions.specs.Results.{TrackAnswer}
use Rattle.x1_questions.specs.Results.{PointAnswer}
use Rattle.x1_questions.specs.declared.answers.Coordinate.{Coordinate}
use Rattle.x1_questions.specs.Results.{CoordinateAnswer}

-- ---- the header

unfoldable pub header_of : List ℕ → HeaderAnswer
header_of f = after_verdict Err (verdict_of f) (Ok (header_in f))

-- ---- track i

abbrev pub track_in : List ℕ → ℕ → TrackAnswer
track_in f i = cond (ltb i (count_of f)) (Ok (track_at f (size_of f) (entry_place i))) (Err (refusal reason.Question))

-- 01: Ask.1
unfoldable pub track_of : List ℕ → ℕ → TrackAnswer
track_of f i = after_verdict Err (verdict_of f) (track_in f i)

-- ---- point j of track i

-- of the track whose entry is at e
abbrev pub point_in : List ℕ → ℕ → ℕ → ℕ → PointAnswer
point_in f size e j =
    cond (ltb j (points_in size (first_of f e) (last_of f e))) (Ok (point_at f size (point_place f size e j)))
    (Err (refusal reason.Question))

-- 01: Ask.1
unfoldable pub point_of : List ℕ → ℕ → ℕ → PointAnswer
point_of f i j =
    after_verdict Err (verdict_of f)
    (cond (ltb i (count_of f)) (point_in f (size_of f) (entry_place i) j) (Err (refusal reason.Question)))

-- ---- the coordinate of point j of track i

-- its track's start plus its increment
-- 02: Ticket14.2
abbrev pub start_plus : Track → Point → Coordinate
start_plus t p = record { latitude = t.start_latitude +ℤ p.latitude_increment; longitude = t.start_longitude +ℤ p.longitude_increment }

-- of the point and the track that are answered; what refuses the point refuses its coordinate. The track of a point that is answered is answered
abbrev pub of_both : PointAnswer → TrackAnswer → CoordinateAnswer
of_both (Err u) a = Err u
of_both (Ok p) (Ok t) = Ok (start_plus t p)
of_both (Ok p) (Err u) = Err u

-- 02: Ticket14.2
unfoldable pub point_coordinate_of : List ℕ → ℕ → ℕ → CoordinateAnswer
point_coordinate_of f i j = of_both (point_of f i j) (track_of f i)

-- ---- the coordinate at position x of the track with a number

-- on a stretch. Some stretch reaches every position up to the end of a track that obeys
abbrev pub on_stretch : List ℕ → ℕ → ℕ → ℕ → Option ℕ → CoordinateAnswer
on_stretch f size e x (Some p) = Ok (coordinate_on f size e x p)
on_stretch f size e x None = Err (refusal reason.Position)

-- on the track whose entry is at e
unfoldable pub on_track : List ℕ → ℕ → ℕ → ℕ → CoordinateAnswer
on_track f size e x =
    cond (leb x (end_position_of f e)) (on_stretch f size e x (stretch_of f size e x)) (Err (refusal reason.Position))

-- on the track that was found
abbrev pub on_found : List ℕ → ℕ → ℕ → Option ℕ → CoordinateAnswer
on_found f size x (Some e) = on_track f size e x
on_found f size x None = Err (refusal reason.Track)

-- 01: Ask.1
unfoldable pub coordinate_asked : List ℕ → ℕ → ℕ → CoordinateAnswer
coordinate_asked f number x = after_verdict Err (verdict_of f) (on_found f (size_of f) x (find_track f number))
