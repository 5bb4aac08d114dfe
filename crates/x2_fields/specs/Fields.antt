-- X.2's fields (01, 'Fields'): the header's, then those of each record in stored order, so in byte order. A record's fields stand in the
-- order of its table; links are judged later and sizes were judged before. f is the file and `at` the record's start.
use Rattle.std.specs.Prelude.{ℕ, ◌+◌, ◌*◌}
use mathlib.Core.List.{List, [], ◌∷◌, ◌++◌, flat_map}
use Rattle.octets.specs.declared.Width.TheVariants.{One, Two}
use Rattle.verdict.specs.Facts.{Fact}
use Rattle.verdict.specs.declared.Reason.TheVariants as reason
use Rattle.rules.specs.Rules.{between}
use Rattle.names.specs.Names.{station_name_fact}
use Rattle.envelope.specs.Seal.{data_at, station_at}
use Rattle.x2_layout.specs.declared.Layout.{Layout}
use Rattle.x2_layout.specs.Places.{name_at, entry_track, header_entry_size, start_entries_at, end_entries_at}
use Rattle.x2_layout.specs.Facts.{indexes}
use Rattle.x2_layout.specs.Records.{kind_at, starts}
use Rattle.x2_kinds.specs.KindFields.{kind_fields}

-- ---- the header

abbrev pub header_fields : List ℕ → List Fact
header_fields f =
    between reason.Field f 0 data_at Two 1 65535
    ∷ between reason.Field f 0 station_at Two 1 65535
    ∷ station_name_fact f 0 name_at
    ∷ []

-- where the track stands in the entry with the index i, of those from `entries` on
abbrev pub header_track_at : ℕ → ℕ → ℕ
header_track_at entries i = entries + header_entry_size * i + entry_track

-- every header track is 1 to 255
abbrev pub entry_fields : List ℕ → ℕ → ℕ → List Fact
entry_fields f entries i = between reason.Field f 0 (header_track_at entries i) One 1 255 ∷ []

unfoldable pub entries_fields : List ℕ → ℕ → ℕ → List Fact
entries_fields f entries count = flat_map (entry_fields f entries) (indexes count)

-- ---- all of them

abbrev pub record_fields : List ℕ → Layout → ℕ → List Fact
record_fields f l at = kind_fields f (kind_at l at) at

-- the header, the tracks of the start boundaries and of the end boundaries, then every record
unfoldable pub field_facts : List ℕ → Layout → List Fact
field_facts f l =
    header_fields f
    ++ (entries_fields f start_entries_at l.n
    ++ (entries_fields f (end_entries_at l.n) l.k ++ flat_map (record_fields f l) (starts f l)))
