-- Table 5 of the standard (01, 'X.2, fixed application'): where each field of the header stands. n is the start boundary count and k the
-- end boundary count.
use Rattle.std.specs.Prelude.{ℕ, ◌+◌, ◌*◌}

-- ---- the type, the two versions and the station stand where they do in both files; then the station's name and n

-- 01: X2.header.1
abbrev pub name_at : ℕ
name_at = 7

-- 01: X2.header.1
abbrev pub start_count_at : ℕ
start_count_at = 23

-- ---- the entry of a boundary: a field's place in the entry, and the entry's size

abbrev pub entry_track : ℕ
entry_track = 0

abbrev pub entry_offset : ℕ
entry_offset = 1

abbrev pub header_entry_size : ℕ
header_entry_size = 3

-- ---- the start boundaries' entries, k, and the end boundaries' entries

-- 01: X2.header.1
abbrev pub start_entries_at : ℕ
start_entries_at = 24

-- 01: X2.header.1
abbrev pub end_count_at : ℕ → ℕ
end_count_at n = start_entries_at + header_entry_size * n

-- 01: X2.header.1
abbrev pub end_entries_at : ℕ → ℕ
end_entries_at n = end_count_at n + 1

-- ---- the five group offsets: turnouts, balises, signals, joints, sidings

abbrev pub offset_size : ℕ
offset_size = 2

-- 01: X2.header.2
abbrev pub yard_count : ℕ
yard_count = 5

-- 01: X2.header.1
abbrev pub groups_at : ℕ → ℕ → ℕ
groups_at n k = end_entries_at n + header_entry_size * k

-- the header's length, where the records start: 35 + 3 n + 3 k
-- 01: X2.header.3
abbrev pub header_length : ℕ → ℕ → ℕ
header_length n k = groups_at n k + offset_size * yard_count

-- ---- limits

-- a balise's size byte, where the balise has a message: 16 and a message of 2 to 104 bytes
abbrev pub size_least : ℕ
size_least = 18

abbrev pub size_most : ℕ
size_most = 120
