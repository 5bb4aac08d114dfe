-- `x2_fields::agreement::entries_agree` meets its contract. The invariant: the facts of the entries from i on have the
-- first fault of all entries.
use mathlib.Core.Path.{◌≡◌}
use mathlib.Core.List.{flat_map}
use Rattle.verdict.specs.Facts.{first_fault}
use Rattle.verdict.specs.Walk.{starts_from}
use Rattle.x2_fields.specs.Agreement.{entry_agrees, entries_agree}
use Rattle.x2_fields.proofs.agreement.entries_agree.Given as goal

abbrev pub invariant-loop-i : goal.invariant-loop-i
invariant-loop-i l = first_fault (flat_map (entry_agrees l.f l.entries l.from) (starts_from (λ _. 1) l.count l.i)) ≡ first_fault (entries_agree l.f l.entries l.from l.count)
