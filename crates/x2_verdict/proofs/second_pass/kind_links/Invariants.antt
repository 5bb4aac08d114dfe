-- `x2_verdict::second_pass::kind_links` meets its contract. The invariant: the links of the records before `at` obey, and `at` lies among
-- the records of the kind, or where they end.
use Prim.Native.Nat.{◌≤◌}
use Rattle.x2_verdict.specs.inner.Passes.{Linking}
use Rattle.x2_verdict.proofs.Stepping.{Steps}
use Rattle.x2_verdict.proofs.second_pass.kind_links.Given as goal

abbrev pub invariant-loop-at : goal.invariant-loop-at
invariant-loop-at g l = Linking l.m.f.now l.m.l l.last l.at × (l.from ≤ l.at) × (l.at ≤ l.until) × Steps g.K.Plain.BYTES l.at l.until
