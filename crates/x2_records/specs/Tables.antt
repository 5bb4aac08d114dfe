-- What the bytes of a record mean: the standard's tables 6 to 12, a line for each field in the table's order. f is the file and `at` the
-- record's start; `num_at n f p` is the number of the n bytes at p. A name is given by its place and how many bytes it has, a message by its
-- place.
-- A case is read from a number: `..Bits` says which bits of the byte it is, `..Of` which case it gives, and `..Number` which number the
-- table gives each case. A number that the table does not have counts as its last one.
use Rattle.std.specs.Prelude.{ℕ, ◌+◌, cond, List, eqb}
use Rattle.x2_records.specs.declared.boundaries.Boundary.{Boundary}
use Rattle.x2_records.specs.declared.turnouts.Direction.{Direction}
use Rattle.x2_records.specs.declared.turnouts.Direction.TheVariants.{Decreasing, Increasing}
use Rattle.x2_records.specs.declared.turnouts.Turnout.{Turnout}
use Rattle.x2_records.specs.declared.balises.Nature.{Nature}
use Rattle.x2_records.specs.declared.balises.Nature.TheVariants.{Virtual, Physical}
use Rattle.x2_records.specs.declared.balises.GroupDirection.{GroupDirection}
use Rattle.x2_records.specs.declared.balises.GroupDirection.TheVariants.{Opposite, Same}
use Rattle.x2_records.specs.declared.balises.Balise.{Balise}
use Rattle.x2_records.specs.declared.signals.Facing.{Facing}
use Rattle.x2_records.specs.declared.signals.Facing.TheVariants.{Neither, Down, Up}
use Rattle.x2_records.specs.declared.signals.Duty.{Duty}
use Rattle.x2_records.specs.declared.signals.Duty.TheVariants.{Entry, Exit, Passing, Route, Shunting}
use Rattle.x2_records.specs.declared.signals.Signal.{Signal}
use Rattle.x2_records.specs.declared.joints.Joint.{Joint}
use Rattle.x2_records.specs.declared.sidings.Siding.{Siding}
use Rattle.tables.specs.Table.{bits_of, value_of, name_of}
use Rattle.x2_records.specs.Places as place
use Rattle.x2_records.specs.Rows as row

-- ---- tables 6 and 7: a boundary

unfoldable pub boundary_at : List ℕ → ℕ → Boundary
boundary_at f at = record {
  entry = value_of f at (row.boundary_entry 0 0);
  link = value_of f at row.boundary_link;
  neighbour_station = value_of f at row.boundary_neighbour_station;
  neighbour_type = value_of f at row.boundary_neighbour_type;
  neighbour_track = value_of f at row.boundary_neighbour_track;
  position = value_of f at row.boundary_position;
  track = value_of f at row.boundary_track;
}

-- ---- table 8: a turnout

-- 0: it opens towards falling positions; 1: towards rising ones
unfoldable pub direction_of : ℕ → Direction
direction_of b = cond (eqb b 0) Decreasing Increasing

abbrev pub direction_number : Direction → ℕ
direction_number Decreasing = 0
direction_number Increasing = 1

-- 01: Form.8
unfoldable pub turnout_at : List ℕ → ℕ → Turnout
turnout_at f at = record {
  number = value_of f at row.turnout_number;
  direction = direction_of (value_of f at row.turnout_direction);
  tip_position = value_of f at row.turnout_tip_position;
  normal_position = value_of f at row.turnout_normal_position;
  reverse_position = value_of f at row.turnout_reverse_position;
  front = value_of f at row.turnout_front;
  normal = value_of f at row.turnout_normal;
  reverse = value_of f at row.turnout_reverse;
  front_track = value_of f at row.turnout_front_track;
  normal_track = value_of f at row.turnout_normal_track;
  reverse_track = value_of f at row.turnout_reverse_track;
}

-- ---- table 9: a balise

-- the low two bits of the attribute byte: whether the balise stands in the data alone or lies in the track
abbrev pub nature_bits : ℕ → ℕ
nature_bits b = bits_of row.balise_nature b

unfoldable pub nature_of : ℕ → Nature
nature_of b = cond (eqb (nature_bits b) 0) Virtual Physical

abbrev pub nature_number : Nature → ℕ
nature_number Virtual = 0
nature_number Physical = 1

-- the top two bits of the attribute byte: whether the group goes against rising positions or with them
abbrev pub group_direction_bits : ℕ → ℕ
group_direction_bits b = bits_of row.balise_group_direction b

unfoldable pub group_direction_of : ℕ → GroupDirection
group_direction_of b = cond (eqb (group_direction_bits b) 1) Opposite Same

abbrev pub group_direction_number : GroupDirection → ℕ
group_direction_number Opposite = 1
group_direction_number Same = 2

-- the low three bits of the group byte: the balise's rank in its group, from 1 on (01 calls it its place)
-- 01: X2.fields.10
abbrev pub rank_of : ℕ → ℕ
rank_of b = bits_of row.balise_rank b + 1

-- the top three bits of the group byte: how many balises the group has, from 1 on
-- 01: X2.fields.10
abbrev pub group_count_of : ℕ → ℕ
group_count_of b = bits_of row.balise_count b + 1

-- 01: Form.8
unfoldable pub balise_at : List ℕ → ℕ → Balise
balise_at f at = record {
  previous = value_of f at row.balise_previous;
  next = value_of f at row.balise_next;
  number = value_of f at row.balise_number;
  size = value_of f at row.balise_size_byte;
  nature = nature_of (value_of f at row.balise_attribute);
  direction = group_direction_of (value_of f at row.balise_attribute);
  position = value_of f at row.balise_position;
  track = value_of f at row.balise_track;
  rank = rank_of (value_of f at row.balise_group);
  count = group_count_of (value_of f at row.balise_group);
  message = at + place.balise_message;
}

-- ---- table 10: a signal

-- the top two bits of the signal byte: the direction that the signal is for
abbrev pub facing_bits : ℕ → ℕ
facing_bits b = bits_of row.signal_top b

unfoldable pub facing_of : ℕ → Facing
facing_of b = cond (eqb (facing_bits b) 0) Neither (cond (eqb (facing_bits b) 1) Down Up)

abbrev pub facing_number : Facing → ℕ
facing_number Neither = 0
facing_number Down = 1
facing_number Up = 2

-- the low four bits of the signal byte: what the signal is for
abbrev pub duty_bits : ℕ → ℕ
duty_bits b = bits_of row.signal_low b

unfoldable pub duty_of : ℕ → Duty
duty_of b =
    cond (eqb (duty_bits b) 1) Entry
    (cond (eqb (duty_bits b) 2) Exit
    (cond (eqb (duty_bits b) 3) Passing
    (cond (eqb (duty_bits b) 4) Route Shunting)))

abbrev pub duty_number : Duty → ℕ
duty_number Entry = 1
duty_number Exit = 2
duty_number Passing = 3
duty_number Route = 4
duty_number Shunting = 5

unfoldable pub signal_at : List ℕ → ℕ → Signal
signal_at f at = record {
  previous = value_of f at row.signal_previous;
  next = value_of f at row.signal_next;
  name = name_of f at row.signal_name;
  position = value_of f at row.signal_position;
  track = value_of f at row.signal_track;
  direction = facing_of (value_of f at row.signal_byte);
  duty = duty_of (value_of f at row.signal_byte);
}

-- ---- table 11: a joint

unfoldable pub joint_at : List ℕ → ℕ → Joint
joint_at f at = record {
  previous = value_of f at row.joint_previous;
  next = value_of f at row.joint_next;
  name = name_of f at row.joint_name;
  position = value_of f at row.joint_position;
  track = value_of f at row.joint_track;
}

-- ---- table 12: a siding

unfoldable pub siding_at : List ℕ → ℕ → Siding
siding_at f at = record {
  name = name_of f at row.siding_name;
  track = value_of f at row.siding_track;
  up_balise = value_of f at row.siding_up_balise;
  up_signal = name_of f at row.siding_up_signal;
  down_balise = value_of f at row.siding_down_balise;
  down_signal = name_of f at row.siding_down_signal;
}
