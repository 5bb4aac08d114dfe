-- `x1_verdict::pass::roomy_pass` meets its contract. The invariant is that of `later_pass`: the points after the first one and before p have
-- passed, and `before` is the position of the point before p.
use Prim.Native.Nat.{◌-◌}
use mathlib.Core.Path.{◌≡◌}
use Rattle.tables.specs.Table.{value_of}
use Rattle.x1_records.specs.Rows.{position}
use Rattle.x1_verdict.specs.inner.Pass.{LaterPassed}
use Rattle.x1_verdict.proofs.pass.roomy_pass.Given as goal

abbrev pub invariant-loop-p : goal.invariant-loop-p
invariant-loop-p l = (l.before ≡ value_of l.f (l.p - l.size) position) × LaterPassed l.f l.size l.e l.p

abbrev pub decreases-loop-p : goal.decreases-loop-p
decreases-loop-p l = l.last - l.p
