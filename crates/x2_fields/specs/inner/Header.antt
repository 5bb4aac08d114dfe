-- What the header is asked by itself: its fields, and that the tracks of its boundaries are those of the records.
use Rattle.std.specs.Prelude.{ℕ, List, ◌++◌}
use Rattle.verdict.specs.Facts.{Fact}
use Rattle.x2_layout.specs.declared.Layout.{Layout}
use Rattle.x2_layout.specs.Places.{start_entries_at, end_entries_at}
use Rattle.x2_fields.specs.Fields.{header_fields, entries_fields}
use Rattle.x2_fields.specs.Agreement.{entries_agree}

unfoldable pub header_facts : List ℕ → Layout → List Fact
header_facts f l =
    header_fields f
    ++ (entries_fields f start_entries_at l.n
    ++ (entries_fields f (end_entries_at l.n) l.k
    ++ (entries_agree f start_entries_at l.starts l.n ++ entries_agree f (end_entries_at l.n) l.ends l.k)))
