-- The coordinate at a position of a track (01, 'Coordinate at a position'): between two neighbouring points each coordinate moves
-- linearly, and the answer is the whole number nearest the exact fraction (rounding's `coordinate_of`). The track's entry is at e, its
-- points are `size` bytes long, and p is the place of a point.
use Rattle.std.specs.Prelude.{ℕ, ◌+◌, ◌-◌, Bool, List, leb, ℤ}
use Rattle.verdict.specs.Walk.{starts_from}
use Rattle.tables.specs.Table.{value_of}
use Rattle.x1_records.specs.Rows as rows
use Rattle.x1_layout.specs.Layout.{first_of, last_of}
use Rattle.x1_verdict.specs.Agreement.{sum_of}
use Rattle.rounding.specs.Nearest.{coordinate_of}
use Rattle.x1_lookup.specs.Lookup.{first_where}
use Rattle.std.specs.Prelude.{Option}
use Rattle.x1_questions.specs.declared.answers.Coordinate.{Coordinate}

-- the track's end position
abbrev pub end_position_of : List ℕ → ℕ → ℕ
end_position_of f e = value_of f e rows.end_position

-- a point's position
abbrev pub position_of : List ℕ → ℕ → ℕ
position_of f p = value_of f p rows.position

-- a point's coordinates: start plus increment
abbrev pub latitude_of : List ℕ → ℕ → ℕ → ℤ
latitude_of f e p = sum_of f e rows.start_latitude p rows.latitude_increment

abbrev pub longitude_of : List ℕ → ℕ → ℕ → ℤ
longitude_of f e p = sum_of f e rows.start_longitude p rows.longitude_increment

abbrev pub point_coordinate : List ℕ → ℕ → ℕ → Coordinate
point_coordinate f e p = record { latitude = latitude_of f e p; longitude = longitude_of f e p }

-- the next point's position is x or more
abbrev pub reaches : List ℕ → ℕ → ℕ → ℕ → Bool
reaches f size x p = leb x (position_of f (p + size))

-- the stretch that x lies on: it starts at the first point, the last one left out, whose next point's position is x or more
unfoldable pub stretch_of : List ℕ → ℕ → ℕ → ℕ → Option ℕ
stretch_of f size e x = first_where (reaches f size x) (starts_from (λ _. size) (last_of f e) (first_of f e))

-- how far x is past the point at p, and how long the stretch is
abbrev pub past_of : List ℕ → ℕ → ℕ → ℕ
past_of f x p = x - position_of f p

abbrev pub length_of : List ℕ → ℕ → ℕ → ℕ
length_of f size p = position_of f (p + size) - position_of f p

-- both coordinates at x, on the stretch that starts at p
unfoldable pub coordinate_on : List ℕ → ℕ → ℕ → ℕ → ℕ → Coordinate
coordinate_on f size e x p = record {
  latitude = coordinate_of (latitude_of f e p) (latitude_of f e (p + size)) (past_of f x p) (length_of f size p);
  longitude = coordinate_of (longitude_of f e p) (longitude_of f e (p + size)) (past_of f x p) (length_of f size p);
}
