-- `x2_links::marks::mark_targets` meets its contract.
use Prim.Native.Nat.{◌-◌}
use Rattle.x2_links.specs.inner.Marks.{Marking}
use Rattle.x2_links.proofs.marks.mark_targets.Given as goal

abbrev pub invariant-loop-at : goal.invariant-loop-at
invariant-loop-at l = Marking l.f l.l l.marks l.at

abbrev pub decreases-loop-at : goal.decreases-loop-at
decreases-loop-at l = l.l.end - l.at
