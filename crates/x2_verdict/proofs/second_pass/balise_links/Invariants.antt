-- `x2_verdict::second_pass::balise_links` meets its contract. The invariant: the links of the records before `at` obey, and `at` lies among
-- the balises, or after them.
use Prim.Native.Nat.{◌-◌, ◌≤◌}
use Rattle.x2_verdict.specs.inner.Passes.{Linking}
use Rattle.x2_verdict.proofs.Neighbours.{Room}
use Rattle.x2_verdict.proofs.second_pass.balise_links.Given as goal

abbrev pub invariant-loop-at : goal.invariant-loop-at
invariant-loop-at l = Linking l.m.f.now l.m.l l.last l.at × (l.from ≤ l.at) × Room l.m.f.now l.until l.stop

abbrev pub decreases-loop-at : goal.decreases-loop-at
decreases-loop-at l = l.until - l.at
