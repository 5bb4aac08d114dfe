-- The fields of X.1's header, of an entry and of a point (01, 'Fields'). What may stand in a field is said by its row.
use Rattle.std.specs.Prelude.{ℕ, List, [], ◌∷◌}
use Rattle.verdict.specs.Facts.{Fact}
use Rattle.tables.specs.Table.{between, Row, row}
use Rattle.tables.specs.Rows.{table_facts}
use Rattle.envelope.specs.Seal.{data_at, station_at}
use Rattle.x1_records.specs.Rows.{entry_table, point_table}

-- both versions and the station are at least 1 (the structure version has a number of its own)
abbrev pub header_table : List Row
header_table = row "data_version" data_at 2 (between 1 65535) ∷ row "station" station_at 2 (between 1 65535) ∷ []

abbrev pub header_fields : List ℕ → List Fact
header_fields f = table_facts f 0 header_table

abbrev pub entry_fields : List ℕ → ℕ → List Fact
entry_fields f e = table_facts f e entry_table

abbrev pub point_fields : List ℕ → ℕ → List Fact
point_fields f p = table_facts f p point_table
