-- `x1_layout::entries_layout` meets its contract. The invariant: the entries before e obey, so that the facts of the entries from e on give
-- the verdict that the facts of all entries give.
use mathlib.Core.Path.{◌≡◌}
use mathlib.Core.List.{flat_map}
use Rattle.verdict.specs.Facts.{first_fault}
use Rattle.verdict.specs.Walk.{starts_from}
use Rattle.x1_records.specs.Places.{entry_size}
use Rattle.x1_layout.specs.Layout.{points_at, entries, entry_layout}
use Rattle.x1_layout.proofs.entries_layout.Given as goal

abbrev pub invariant-loop-e : goal.invariant-loop-e
invariant-loop-e l = first_fault (flat_map (entry_layout l.f l.size) (starts_from (λ _. entry_size) (points_at l.f) l.e)) ≡ first_fault (flat_map (entry_layout l.f l.size) (entries l.f))
