-- The numbers of the standard's tables 6 to 12 (01, 'X.2, fixed application'): how many bytes a record has, its type byte, the place of
-- each field counted from the record's start, and the parts of a byte. A part is the byte divided by its `Over`, modulo its `Modulo`.
use Rattle.std.specs.Prelude.{ℕ}

-- ---- tables 6 and 7: a boundary

abbrev pub boundary_size : ℕ
boundary_size = 12

-- type bytes: start and end on the up line and on the down line; a neighbour's type that is not known
abbrev pub boundary_start_up : ℕ
boundary_start_up = 0x00

abbrev pub boundary_start_down : ℕ
boundary_start_down = 0x01

abbrev pub boundary_end_up : ℕ
boundary_end_up = 0xFF

abbrev pub boundary_end_down : ℕ
boundary_end_down = 0xFE

abbrev pub boundary_unknown : ℕ
boundary_unknown = 0x55

-- ---- table 8: a turnout

abbrev pub turnout_size : ℕ
turnout_size = 24

abbrev pub turnout_type : ℕ
turnout_type = 0x06

-- ---- table 9: a balise; its message comes on top of its size

abbrev pub balise_size : ℕ
balise_size = 16

abbrev pub balise_type : ℕ
balise_type = 0x33

-- the number that stands for no balise
abbrev pub balise_none : ℕ
balise_none = 0xFFFFFF

-- fields
abbrev pub balise_size_byte : ℕ
balise_size_byte = 8

abbrev pub balise_message : ℕ
balise_message = 16

-- ---- table 10: a signal

abbrev pub signal_size : ℕ
signal_size = 19

abbrev pub signal_type : ℕ
signal_type = 0xC3

-- ---- table 11: a joint

abbrev pub joint_size : ℕ
joint_size = 18

abbrev pub joint_type : ℕ
joint_type = 0xC6

-- ---- table 12: a siding

abbrev pub siding_size : ℕ
siding_size = 32

abbrev pub siding_type : ℕ
siding_type = 0xCC
