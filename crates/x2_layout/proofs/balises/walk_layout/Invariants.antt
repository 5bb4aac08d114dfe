-- `x2_layout::balises::walk_layout` meets its contract. The invariant: the facts of the balises from `at` on have the first fault of all.
use Prim.Native.Nat.{◌-◌}
use mathlib.Core.Path.{◌≡◌}
use Rattle.verdict.specs.Facts.{first_fault}
use Rattle.x2_layout.specs.Groups.{walk_layout}
use Rattle.x2_layout.proofs.balises.walk_layout.Given as goal

abbrev pub invariant-loop-at : goal.invariant-loop-at
invariant-loop-at l = first_fault (walk_layout l.f l.at l.until l.next) ≡ first_fault (walk_layout l.f l.from l.until l.next)

abbrev pub decreases-loop-at : goal.decreases-loop-at
decreases-loop-at l = l.until - l.at
