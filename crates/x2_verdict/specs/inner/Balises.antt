-- What the first pass finds in the bytes of a balise: f is the file and `at` the balise's start.
use Rattle.std.specs.Prelude.{ℕ, ◌+◌, ◌-◌, ◌%◌, ◌≤◌, ◌<◌, ◌≡◌, Bool, ◌⊎◌, List, eqb}
use Rattle.octets.specs.Octets.{num_at}
use Rattle.verdict.specs.Facts.{Holds}
use Rattle.tables.specs.Rows.{RowObeys}
use Rattle.x2_records.specs.declared.Kind.TheVariants.{Balise}
use Rattle.x2_records.specs.Rows.{balise_entry, balise_number, balise_attribute, balise_position, balise_track, balise_group}
use Rattle.x2_records.specs.Tables.{rank_of, group_count_of}
use Rattle.x2_kinds.specs.KindFields.{message_end}
use Rattle.x2_fields.specs.Agreement.{group_byte_of, goes_before}

-- nothing stands below the count in the group byte: its middle is 0, and its rank is the first
abbrev pub leading : List ℕ → ℕ → Bool
leading f at = eqb (group_byte_of f at % 32) 0

-- the fields of table 9 of which something is asked, but for the group
pub record FixedObeys (f : List ℕ) (at : ℕ) : Type 0 where
  pub entry : RowObeys f at balise_entry
  pub number : RowObeys f at balise_number
  pub attribute : RowObeys f at balise_attribute
  pub position : RowObeys f at balise_position
  pub track : RowObeys f at balise_track

-- a balise starts at `before`, of those from a place on and before the one at `at`, and goes before it in its group
pub record Preceded (f : List ℕ) (from before at : ℕ) : Type 0 where
  pub above : from ≤ before
  pub below : before < at
  pub goes : Holds (goes_before f Balise before at)

-- the group, after the record at `before`, where the balises stand from a place on
pub record GroupObeys (f : List ℕ) (from before at : ℕ) : Type 0 where
  pub middle : RowObeys f at balise_group
  pub rank : rank_of (group_byte_of f at) ≤ group_count_of (group_byte_of f at)
  pub sequence : (rank_of (group_byte_of f at) ≡ 1) ⊎ Preceded f from before at

-- a message, of a balise of so many bytes, ends at `until` or before, and with the right byte
pub record MessageObeys (f : List ℕ) (at size until : ℕ) : Type 0 where
  pub inside : at + size ≤ until
  pub ends : num_at 1 f (at + size - 1) ≡ message_end
