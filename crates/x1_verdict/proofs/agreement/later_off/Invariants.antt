-- `x1_verdict::agreement::later_off` meets its contract. The invariant: the points after the first one and before p obey, so that the facts of
-- the points from p on give the verdict that those of all points after the first one give.
use Prim.Native.Nat.{◌+◌, ◌-◌, ◌^◌, ◌≤◌, ◌<◌}
use mathlib.Core.Path.{◌≡◌}
use Rattle.verdict.specs.Facts.{first_fault}
use Rattle.x1_layout.specs.Layout.{first_of}
use Rattle.x1_verdict.specs.inner.FirstOff.{points_from}
use Rattle.x1_verdict.proofs.agreement.later_off.Given as goal

abbrev pub invariant-loop-p : goal.invariant-loop-p
invariant-loop-p l = (l.t.first + l.size ≤ l.p) × (l.p < 2 ^ 17) × (first_fault (points_from l.f l.size l.e l.p) ≡ first_fault (points_from l.f l.size l.e (first_of l.f l.e + l.size)))

abbrev pub decreases-loop-p : goal.decreases-loop-p
decreases-loop-p l = l.last - l.p
