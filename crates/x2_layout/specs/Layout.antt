-- Where the records of an X.2 file stand, as its header has it (01, 'X.2, fixed application'): from the header's end to End without gaps,
-- start boundaries, end boundaries, then the five groups. These are the numbers of any file; the facts of the layout (Facts) say whether
-- they are right.
use Rattle.std.specs.Prelude.{ℕ, ◌+◌, ◌*◌, List, get_or}
use Rattle.octets.specs.Octets.{num_at}
pub use Rattle.envelope.specs.Seal.{end_of}
use Rattle.x2_records.specs.Places.{boundary_size}
use Rattle.x2_layout.specs.declared.Layout.{Layout}
use Rattle.x2_layout.specs.declared.Grouping.TheVariants.{Yard}
use Rattle.x2_layout.specs.declared.Offsets.{Offsets}
use Rattle.x2_layout.specs.Places.{start_count_at, end_count_at, groups_at, yard_count, header_length}
use Rattle.x2_layout.specs.Groups.{groups_of, group_ends}

-- ---- the boundaries

-- the start boundary count n and the end boundary count k
abbrev pub start_count_of : List ℕ → ℕ
start_count_of f = num_at 1 f start_count_at

abbrev pub end_count_of : List ℕ → ℕ
end_count_of f = num_at 1 f (end_count_at (start_count_of f))

-- where the header ends, where the start boundaries end, and where the end boundaries end
abbrev pub header_end_of : List ℕ → ℕ
header_end_of f = header_length (start_count_of f) (end_count_of f)

abbrev pub starts_end_of : List ℕ → ℕ
starts_end_of f = header_end_of f + boundary_size * start_count_of f

abbrev pub boundaries_end_of : List ℕ → ℕ
boundaries_end_of f = starts_end_of f + boundary_size * end_count_of f

-- ---- the groups

-- X.2's five group offsets, the first at a base
abbrev pub yard_offsets : ℕ → ℕ → Offsets
yard_offsets base end = record { file = Yard; base = base; count = yard_count; end = end }

-- where the group with the index i ends; the first nonzero one is due where the boundaries end
abbrev pub group_end_of : List ℕ → ℕ → ℕ
group_end_of f i =
    get_or (group_ends f (end_of f) (boundaries_end_of f) (groups_of (yard_offsets (groups_at (start_count_of f) (end_count_of f)) (end_of f)))) i 0

-- ---- all numbers: the two counts, where each sort of records starts, and End

-- 01: X2.layout.1
unfoldable pub layout_of : List ℕ → Layout
layout_of f = record {
  n = start_count_of f;
  k = end_count_of f;
  starts = header_end_of f;
  ends = starts_end_of f;
  turnouts = boundaries_end_of f;
  balises = group_end_of f 0;
  signals = group_end_of f 1;
  joints = group_end_of f 2;
  sidings = group_end_of f 3;
  end = end_of f;
}
