-- `x2_layout::groups::check_groups` meets its contract. The invariant: the facts of the groups from the index i on, the first of them due
-- where the last one ended, have the first fault of all groups.
use Prim.Native.Nat.{◌-◌, ◌<◌}
use mathlib.Core.Path.{◌≡◌}
use Rattle.verdict.specs.Facts.{first_fault}
use Rattle.x2_layout.specs.inner.Bounds.{slice_over}
use Rattle.x2_layout.specs.Groups.{groups_from, groups_of, group_facts}
use Rattle.x2_layout.proofs.groups.check_groups.Given as goal

abbrev pub invariant-loop-i : goal.invariant-loop-i
invariant-loop-i l = (l.due < slice_over) × (first_fault (group_facts l.f l.last l.o.end l.due (groups_from l.o (l.o.count - l.i) l.i)) ≡ first_fault (group_facts l.f l.last l.o.end l.initial.due (groups_of l.o)))
