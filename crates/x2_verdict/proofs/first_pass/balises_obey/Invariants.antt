-- `x2_verdict::first_pass::balises_obey` meets its contract. The invariant: the records before `at` are passed over, and `at` lies among
-- the balises, or where they end. They all lie inside the file.
use Prim.Native.Nat.{◌-◌, ◌≤◌}
use Rattle.x2_verdict.proofs.Balises.{Carried}
use Rattle.x2_verdict.proofs.first_pass.balises_obey.Given as goal

abbrev pub invariant-loop-at : goal.invariant-loop-at
invariant-loop-at l = Carried l.f l.from l.until l.before l.initial.marks l.marks l.last l.at × (l.from ≤ l.at) × (l.at ≤ l.until)

abbrev pub decreases-loop-at : goal.decreases-loop-at
decreases-loop-at l = l.until - l.at
