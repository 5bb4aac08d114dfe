-- What the bytes of a track's entry and of a point mean (01, 'X.1, track geography'): what each row of tables 2 and 3 reads, a line for
-- each field in the table's order. `size` is the size of a point; a track knows it (02, ticket 11).
use Rattle.std.specs.Prelude.{ℕ, ◌+◌, ◌-◌, ◌/◌, cond, List, [], ◌∷◌, ltb, ℤ, pos}
use Rattle.tables.specs.Table.{value_of, signed_of}
use Rattle.x1_records.specs.Rows as rows
use Rattle.x1_records.specs.declared.Track.{Track}
use Rattle.x1_records.specs.declared.Point.{Point}
use Rattle.std.specs.Prelude.{Option, Some, None}

-- 01: Bytes.2, X1.header.2
-- 02: Ticket11.3
unfoldable pub track_at : List ℕ → ℕ → ℕ → Track
track_at f size at = record {
  number = value_of f at rows.number;
  property = value_of f at rows.property;
  start_position = value_of f at rows.start_position;
  start_latitude = signed_of f at rows.start_latitude;
  start_longitude = signed_of f at rows.start_longitude;
  end_position = value_of f at rows.end_position;
  end_latitude = signed_of f at rows.end_latitude;
  end_longitude = signed_of f at rows.end_longitude;
  first = value_of f at rows.first;
  last = value_of f at rows.last;
  point_size = size;
}

-- the height of the point at a place, and none where a point of its size has none
-- 02: Ticket11.2
unfoldable pub height_at : List ℕ → ℕ → ℕ → Option ℤ
height_at f size at = cond (rows.has_height size) (Some (signed_of f at rows.height)) None

-- 1 and the height, or 0 and 0 where there is none
-- 01: Form.10
abbrev pub height_values : Option ℤ → List ℤ
height_values (Some z) = pos 1 ∷ z ∷ []
height_values None = pos 0 ∷ pos 0 ∷ []

-- 01: Bytes.2, X1.header.3
-- 02: Ticket11.3
unfoldable pub point_at : List ℕ → ℕ → ℕ → Point
point_at f size at = record {
  position = value_of f at rows.position;
  latitude_increment = signed_of f at rows.latitude_increment;
  longitude_increment = signed_of f at rows.longitude_increment;
  heading = signed_of f at rows.heading;
  near = value_of f at rows.near;
  height = height_at f size at;
}

-- how many points of a size stand from the first to the last, both counted
unfoldable pub points_in : ℕ → ℕ → ℕ → ℕ
points_in size first last = cond (ltb last first) 0 ((last - first) / size + 1)
