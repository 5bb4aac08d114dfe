-- The standard's tables 6 to 12, a row for each field in the page's order: its name, its offset in the record, how many bytes it has, and
-- what may stand in it (01, 'X.2, fixed application'). Everything else that is said of a field follows from its row.
use Rattle.std.specs.Prelude.{ℕ, ◌-◌, List, [], ◌∷◌}
use Rattle.names.specs.Names.{may_be_empty, not_empty}
use Rattle.tables.specs.Table.{Part, bits, Values, any, link, exactly, between, among_four, among_five, named, parts, Row, row}
use Rattle.x2_records.specs.declared.Kind.{Kind}
use Rattle.x2_records.specs.declared.Kind.TheVariants as kind
use Rattle.x2_records.specs.Places as place

-- positions as in X.1, and tracks
abbrev pub positions : Values
positions = between 0 2147483647

abbrev pub tracks : Values
tracks = between 1 255

-- ---- tables 6 and 7: a boundary, whose type byte is one of two

abbrev pub boundary_entry : ℕ → ℕ → Row
boundary_entry low high = row "type" 0 1 (between low high)

abbrev pub boundary_link : Row
boundary_link = row "link" 1 2 link

-- 01: X2.fields.3
abbrev pub boundary_neighbour_station : Row
boundary_neighbour_station = row "neighbour_station" 3 2 any

abbrev pub boundary_neighbour_type : Row
boundary_neighbour_type =
    row "neighbour_type" 5 1
    (among_five place.boundary_start_up place.boundary_start_down place.boundary_end_up place.boundary_end_down place.boundary_unknown)

-- 01: X2.fields.3
abbrev pub boundary_neighbour_track : Row
boundary_neighbour_track = row "neighbour_track" 6 1 any

abbrev pub boundary_position : Row
boundary_position = row "position" 7 4 positions

abbrev pub boundary_track : Row
boundary_track = row "track" 11 1 tracks

abbrev pub boundary_table : ℕ → ℕ → List Row
boundary_table low high =
    boundary_entry low high ∷ boundary_link ∷ boundary_neighbour_station ∷ boundary_neighbour_type ∷ boundary_neighbour_track ∷ boundary_position
    ∷ boundary_track ∷ []

-- ---- table 8: a turnout

abbrev pub turnout_entry : Row
turnout_entry = row "type" 0 1 (exactly place.turnout_type)

abbrev pub turnout_number : Row
turnout_number = row "number" 1 1 (between 1 255)

abbrev pub turnout_direction : Row
turnout_direction = row "direction" 2 1 (between 0 1)

abbrev pub turnout_tip_position : Row
turnout_tip_position = row "tip_position" 3 4 positions

abbrev pub turnout_normal_position : Row
turnout_normal_position = row "normal_position" 7 4 positions

abbrev pub turnout_reverse_position : Row
turnout_reverse_position = row "reverse_position" 11 4 positions

abbrev pub turnout_front : Row
turnout_front = row "front" 15 2 link

abbrev pub turnout_normal : Row
turnout_normal = row "normal" 17 2 link

abbrev pub turnout_reverse : Row
turnout_reverse = row "reverse" 19 2 link

abbrev pub turnout_front_track : Row
turnout_front_track = row "front_track" 21 1 tracks

abbrev pub turnout_normal_track : Row
turnout_normal_track = row "normal_track" 22 1 tracks

abbrev pub turnout_reverse_track : Row
turnout_reverse_track = row "reverse_track" 23 1 tracks

abbrev pub turnout_table : List Row
turnout_table =
    turnout_entry ∷ turnout_number ∷ turnout_direction ∷ turnout_tip_position ∷ turnout_normal_position ∷ turnout_reverse_position ∷ turnout_front
    ∷ turnout_normal ∷ turnout_reverse ∷ turnout_front_track ∷ turnout_normal_track ∷ turnout_reverse_track ∷ []

-- ---- table 9: a balise; its size byte is judged with the layout

-- parts of the attribute byte, and of the group byte
abbrev pub balise_nature : Part
balise_nature = bits 1 4 0 1

abbrev pub balise_group_direction : Part
balise_group_direction = bits 64 4 1 2

abbrev pub balise_rank : Part
balise_rank = bits 1 8 0 7

abbrev pub balise_middle : Part
balise_middle = bits 8 4 0 0

abbrev pub balise_count : Part
balise_count = bits 32 8 0 7

abbrev pub balise_entry : Row
balise_entry = row "type" 0 1 (exactly place.balise_type)

abbrev pub balise_previous : Row
balise_previous = row "previous" 1 2 link

abbrev pub balise_next : Row
balise_next = row "next" 3 2 link

abbrev pub balise_number : Row
balise_number = row "number" 5 3 (between 0 (place.balise_none - 1))

abbrev pub balise_size_byte : Row
balise_size_byte = row "size" place.balise_size_byte 1 any

abbrev pub balise_attribute : Row
balise_attribute = row "attribute" 9 1 (among_four 0x40 0x41 0x80 0x81)

abbrev pub balise_position : Row
balise_position = row "position" 10 4 positions

abbrev pub balise_track : Row
balise_track = row "track" 14 1 tracks

abbrev pub balise_group : Row
balise_group = row "group" 15 1 (parts (balise_middle ∷ []))

abbrev pub balise_table : List Row
balise_table =
    balise_entry ∷ balise_previous ∷ balise_next ∷ balise_number ∷ balise_size_byte ∷ balise_attribute ∷ balise_position ∷ balise_track
    ∷ balise_group ∷ []

-- ---- table 10: a signal

-- the parts of the signal byte: the direction in the top two bits, nothing in the middle two, the duty in the low four
abbrev pub signal_top : Part
signal_top = bits 64 4 0 2

abbrev pub signal_middle : Part
signal_middle = bits 16 4 0 0

abbrev pub signal_low : Part
signal_low = bits 1 16 1 5

abbrev pub signal_entry : Row
signal_entry = row "type" 0 1 (exactly place.signal_type)

abbrev pub signal_previous : Row
signal_previous = row "previous" 1 2 link

abbrev pub signal_next : Row
signal_next = row "next" 3 2 link

abbrev pub signal_name : Row
signal_name = row "name" 5 8 (named not_empty)

abbrev pub signal_position : Row
signal_position = row "position" 13 4 positions

abbrev pub signal_track : Row
signal_track = row "track" 17 1 tracks

abbrev pub signal_byte : Row
signal_byte = row "signal" 18 1 (parts (signal_top ∷ signal_middle ∷ signal_low ∷ []))

abbrev pub signal_table : List Row
signal_table = signal_entry ∷ signal_previous ∷ signal_next ∷ signal_name ∷ signal_position ∷ signal_track ∷ signal_byte ∷ []

-- ---- table 11: a joint

abbrev pub joint_entry : Row
joint_entry = row "type" 0 1 (exactly place.joint_type)

abbrev pub joint_previous : Row
joint_previous = row "previous" 1 2 link

abbrev pub joint_next : Row
joint_next = row "next" 3 2 link

abbrev pub joint_name : Row
joint_name = row "name" 5 8 (named may_be_empty)

abbrev pub joint_position : Row
joint_position = row "position" 13 4 positions

abbrev pub joint_track : Row
joint_track = row "track" 17 1 tracks

abbrev pub joint_table : List Row
joint_table = joint_entry ∷ joint_previous ∷ joint_next ∷ joint_name ∷ joint_position ∷ joint_track ∷ []

-- ---- table 12: a siding

abbrev pub siding_entry : Row
siding_entry = row "type" 0 1 (exactly place.siding_type)

abbrev pub siding_name : Row
siding_name = row "name" 1 8 (named not_empty)

abbrev pub siding_track : Row
siding_track = row "track" 9 1 tracks

-- 01: X2.fields.17
abbrev pub siding_up_balise : Row
siding_up_balise = row "up_balise" 10 3 any

abbrev pub siding_up_signal : Row
siding_up_signal = row "up_signal" 13 8 (named may_be_empty)

-- 01: X2.fields.17
abbrev pub siding_down_balise : Row
siding_down_balise = row "down_balise" 21 3 any

abbrev pub siding_down_signal : Row
siding_down_signal = row "down_signal" 24 8 (named may_be_empty)

abbrev pub siding_table : List Row
siding_table = siding_entry ∷ siding_name ∷ siding_track ∷ siding_up_balise ∷ siding_up_signal ∷ siding_down_balise ∷ siding_down_signal ∷ []

-- ---- all of them

-- 01: X2.layout.3
abbrev pub table_of : Kind → List Row
table_of kind.StartBoundary = boundary_table place.boundary_start_up place.boundary_start_down
table_of kind.EndBoundary = boundary_table place.boundary_end_down place.boundary_end_up
table_of kind.Turnout = turnout_table
table_of kind.Balise = balise_table
table_of kind.Signal = signal_table
table_of kind.Joint = joint_table
table_of kind.Siding = siding_table
