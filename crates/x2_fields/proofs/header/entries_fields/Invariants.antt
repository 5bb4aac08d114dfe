-- `x2_fields::header::entries_fields` meets its contract. The invariant: the facts of the entries from i on have the
-- first fault of all entries.
use mathlib.Core.Path.{◌≡◌}
use mathlib.Core.List.{flat_map}
use Rattle.verdict.specs.Facts.{first_fault}
use Rattle.verdict.specs.Walk.{starts_from}
use Rattle.x2_fields.specs.Fields.{entry_fields, entries_fields}
use Rattle.x2_fields.proofs.header.entries_fields.Given as goal

abbrev pub invariant-loop-i : goal.invariant-loop-i
invariant-loop-i l = first_fault (flat_map (entry_fields l.f l.entries) (starts_from (λ _. 1) l.count l.i)) ≡ first_fault (entries_fields l.f l.entries l.count)
