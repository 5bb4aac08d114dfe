-- The structure versions of X.1 and what they change (02, ticket 11), the sizes of its records (01, 'X.1, track geography'), where the
-- entries start, and the limits of the fields (01, 'Fields'). Where each field stands is said by its row (Rows).
use Rattle.std.specs.Prelude.{ℕ, cond, ltb}

-- ---- structure versions

-- from this one on each point has a height
-- 02: Ticket11.2
abbrev pub heights_from : ℕ
heights_from = 2

-- the newest one that is known
-- 02: Ticket11.8
abbrev pub newest_version : ℕ
newest_version = 2

-- ---- sizes

-- the track entries start after the header
abbrev pub entries_at : ℕ
entries_at = 8

abbrev pub entry_size : ℕ
entry_size = 30

-- a point's size in a structure version: 13 bytes, and with the height 15. No other definition names these numbers
-- 01: X1.header.3
-- 02: Ticket11.2
unfoldable pub point_size : ℕ → ℕ
point_size version = cond (ltb version heights_from) 13 15

-- ---- limits

-- a file's least length: in any structure version, and in its own
abbrev pub least_length : ℕ
least_length = 68

-- 02: Ticket11.9
unfoldable pub least_length_in : ℕ → ℕ
least_length_in version = cond (ltb version heights_from) least_length 72

abbrev pub latitude_most : ℕ
latitude_most = 324000000

abbrev pub longitude_most : ℕ
longitude_most = 648000000

abbrev pub position_most : ℕ
position_most = 2147483647

abbrev pub heading_most : ℕ
heading_most = 31416
