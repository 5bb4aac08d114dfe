-- `x2_layout::groups::next_group` meets its contract. The invariant: the next nonzero offset from j on, and its field, are those from i on.
use Prim.Native.Nat.{◌-◌}
use mathlib.Core.Path.{◌≡◌}
use Rattle.x2_layout.specs.Groups.{groups_from, next_start, next_field}
use Rattle.x2_layout.proofs.groups.next_group.Given as goal

abbrev pub invariant-loop-j : goal.invariant-loop-j
invariant-loop-j l = (next_start l.f l.o.end (groups_from l.o (l.o.count - l.j) l.j) ≡ next_start l.f l.o.end (groups_from l.o (l.o.count - l.i) l.i))
    × (next_field l.f l.o.end (groups_from l.o (l.o.count - l.j) l.j) ≡ next_field l.f l.o.end (groups_from l.o (l.o.count - l.i) l.i))
