-- `x1_verdict::pass::frame_inside` meets its contract.
use Rattle.x1_verdict.proofs.Starts.{frame_read}
use Rattle.x1_verdict.proofs.pass.frame_inside.Goals as goal

pub returns : goal.returns
returns c = let last = c.two_inside-2 in
    let first = c.two_inside in
    let east = c.signed_inside-longitude in
    let north = c.signed_inside-latitude in
    let a = c.args in
    frame_read north.result east.result a.f.now (λ i. (c.shared_slice_known-1.given i).fits) a.e first.result last.result c.is_roomy.result first.ensures last.ensures
    north.ensures east.ensures c.is_roomy.ensures
