-- `x1_verdict::agreement::frame_of` meets its contract.
use Rattle.x1_verdict.proofs.Starts.{frame_read}
use Rattle.x1_verdict.proofs.agreement.frame_of.Goals as goal

pub returns : goal.returns
returns c = let last = c.number_of-2 in
    let first = c.number_of in
    let east = c.signed_of-longitude in
    let north = c.signed_of-latitude in
    let a = c.args in
    frame_read north.result east.result a.f.now (λ i. (c.shared_slice_known-1.given i).fits) a.e first.result last.result c.is_roomy.result first.ensures last.ensures
    north.ensures east.ensures c.is_roomy.ensures
