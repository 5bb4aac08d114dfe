-- `x2_verdict::kind_passes::kind_pass` meets its contract. The invariant: the records before `at` are passed over, and `at` lies among the
-- records of the kind, or where they end.
use Rattle.x2_verdict.proofs.KindTurns.{Among}
use Rattle.x2_verdict.proofs.Stepping.{Steps}
use Rattle.x2_verdict.proofs.kind_passes.kind_pass.Given as goal

abbrev pub invariant-loop-at : goal.invariant-loop-at
invariant-loop-at g l = Among l.f l.fn.l g.K.Plain.sort l.from l.until l.marks l.last l.at × Steps g.K.Plain.BYTES l.at l.until
