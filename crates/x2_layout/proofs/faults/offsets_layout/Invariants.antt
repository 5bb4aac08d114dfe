-- `x2_layout::faults::offsets_layout` meets its contract. The invariant: the facts of the entries from i on have the first fault
-- of all entries.
use mathlib.Core.Path.{◌≡◌}
use mathlib.Core.List.{flat_map}
use Rattle.verdict.specs.Facts.{first_fault}
use Rattle.verdict.specs.Walk.{starts_from}
use Rattle.x2_layout.specs.Facts.{offset_layout, offsets_layout}
use Rattle.x2_layout.proofs.faults.offsets_layout.Given as goal

abbrev pub invariant-loop-i : goal.invariant-loop-i
invariant-loop-i l = first_fault (flat_map (offset_layout l.f l.entries l.due) (starts_from (λ _. 1) l.count l.i)) ≡ first_fault (offsets_layout l.f l.entries l.due l.count)
