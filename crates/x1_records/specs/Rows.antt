-- Tables 2 and 3 of the standard (01, 'X.1, track geography' and 'Fields'; 02, ticket 11): a row for each field in the page's order, with
-- its name, its place in the record, its width, its sign, and what may stand in it. Everything else that is said of a field follows from its
-- row.
use Rattle.std.specs.Prelude.{ℕ, ◌+◌, Bool, cond, List, [], ◌∷◌, ◌++◌, leb}
use Rattle.tables.specs.Table.{any, exactly, between, within, Row, row, signed_row}
use Rattle.x1_records.specs.Places.{latitude_most, longitude_most, position_most, heading_most}

-- ---- table 2, the header: those before the track count stand with the seal of both files. The count is judged with the layout

-- 01: X1.header.1
abbrev pub count : Row
count = row "track_count" 7 1 any

-- ---- table 2, a track's entry. The two offsets are judged with the layout

abbrev pub number : Row
number = row "number" 0 1 (between 1 255)

abbrev pub property : Row
property = row "property" 1 1 (between 1 5)

abbrev pub start_position : Row
start_position = row "start_position" 2 4 (exactly 0)

abbrev pub start_latitude : Row
start_latitude = signed_row "start_latitude" 6 4 (within latitude_most)

abbrev pub start_longitude : Row
start_longitude = signed_row "start_longitude" 10 4 (within longitude_most)

abbrev pub end_position : Row
end_position = row "end_position" 14 4 (between 0 position_most)

abbrev pub end_latitude : Row
end_latitude = signed_row "end_latitude" 18 4 (within latitude_most)

abbrev pub end_longitude : Row
end_longitude = signed_row "end_longitude" 22 4 (within longitude_most)

abbrev pub first : Row
first = row "first_offset" 26 2 any

abbrev pub last : Row
last = row "last_offset" 28 2 any

-- 01: X1.header.2
abbrev pub entry_table : List Row
entry_table =
    number
    ∷ property
    ∷ start_position
    ∷ start_latitude
    ∷ start_longitude
    ∷ end_position
    ∷ end_latitude
    ∷ end_longitude
    ∷ first
    ∷ last
    ∷ []

-- ---- table 3, a point. An increment may be any; what it adds up to is judged with the agreement

abbrev pub position : Row
position = row "position" 0 4 (between 0 position_most)

-- 01: Bytes.3
abbrev pub latitude_increment : Row
latitude_increment = signed_row "latitude_increment" 4 3 any

-- 01: Bytes.3
abbrev pub longitude_increment : Row
longitude_increment = signed_row "longitude_increment" 7 3 any

abbrev pub heading : Row
heading = signed_row "heading" 10 2 (within heading_most)

abbrev pub near : Row
near = row "near" 12 1 (between 0 1)

-- 01: X1.header.3
abbrev pub point_table : List Row
point_table = position ∷ latitude_increment ∷ longitude_increment ∷ heading ∷ near ∷ []

-- ---- ticket 11: a height in decimetres at the point's end. Any height is right

-- 02: Ticket11.1, Ticket11.2
abbrev pub height : Row
height = signed_row "height" (near.offset + near.width) 2 any

-- a point of a size has one where the size has room for it
abbrev pub has_height : ℕ → Bool
has_height size = leb (height.offset + height.width) size

-- all fields of a point of a size
-- 02: Ticket11.2, Ticket11.4
abbrev pub sized_table : ℕ → List Row
sized_table size = point_table ++ cond (has_height size) (height ∷ []) []
