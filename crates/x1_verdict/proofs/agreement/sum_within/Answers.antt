-- `x1_verdict::agreement::sum_within` meets its contract.
use Prim.Native.Nat.{◌+◌}
use Rattle.x1_verdict.proofs.Starts.{start_handed, start_small}
use Rattle.verdict.specs.Facts.{first_fault}
use Rattle.x1_verdict.proofs.agreement.sum_within.Goals as goal

pub sum_lies_within-ok-requires : goal.sum_lies_within-ok-requires
sum_lies_within-ok-requires c = let a = c.args in
    start_small a.axis.start.1 a.f.now (a.e + a.axis.start.0) c.signed_of-from.result c.signed_of-from.ensures

pub returns : goal.returns
unfolding first_fault
returns c = let a = c.args in
    let from = start_handed a.axis.start.1 a.f.now (a.e + a.axis.start.0) c.signed_of-from.result c.signed_of-from.ensures in
    simp (c.ask.ensures, c.place_of-2.ensures, c.place_of.ensures, c.sum_lies_within-ok.ensures, from.is)
