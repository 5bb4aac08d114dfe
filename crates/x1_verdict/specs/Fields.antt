-- X.1's fields (01, 'Fields'): the header's, those of each entry, and those of each point, in byte order.
use Rattle.std.specs.Prelude.{ℕ}
use mathlib.Core.List.{List, ◌++◌, flat_map}
use Rattle.verdict.specs.Facts.{Fact}
use Rattle.verdict.specs.Walk.{starts_from}
use Rattle.x1_layout.specs.Layout.{end_of, points_at, entries}
use Rattle.x1_fields.specs.Fields.{header_fields, entry_fields, point_fields}

-- the starts of all points
unfoldable pub all_points : List ℕ → ℕ → List ℕ
all_points f size = starts_from (λ _. size) (end_of f) (points_at f)

unfoldable pub field_facts : List ℕ → ℕ → List Fact
field_facts f size = header_fields f ++ (flat_map (entry_fields f) (entries f) ++ flat_map (point_fields f) (all_points f size))
