-- `x1_verdict::agreement::sum_is` meets its contract.
use Prim.Native.Nat.{◌+◌}
use Rattle.x1_verdict.proofs.Starts.{start_handed, start_small}
use Rattle.verdict.specs.Facts.{first_fault}
use Rattle.x1_verdict.proofs.agreement.sum_is.Goals as goal

pub sum_equals-ok-requires : goal.sum_equals-ok-requires
sum_equals-ok-requires c = let a = c.args in
    (start_small a.axis.start.1 a.f.now (a.e + a.axis.start.0) c.signed_of-from.result c.signed_of-from.ensures, start_small a.axis.end.1 a.f.now (a.e + a.axis.end.0) c.signed_of-to.result c.signed_of-to.ensures)

pub returns : goal.returns
unfolding first_fault
returns c = let a = c.args in
    let from = start_handed a.axis.start.1 a.f.now (a.e + a.axis.start.0) c.signed_of-from.result c.signed_of-from.ensures in
    let to = start_handed a.axis.end.1 a.f.now (a.e + a.axis.end.0) c.signed_of-to.result c.signed_of-to.ensures in
    simp (c.ask.ensures, c.place_of-3.ensures, c.place_of-2.ensures, c.place_of.ensures, c.sum_equals-ok.ensures, from.is, to.is)
