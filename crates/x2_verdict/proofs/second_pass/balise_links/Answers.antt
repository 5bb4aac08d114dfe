-- `x2_verdict::second_pass::balise_links` meets its contract.
use native.Mathlib.Omega.{arith}
use Prim.Native.Nat.{◌<◌}
use Rattle.x2_verdict.proofs.Passes.{linking_over}
use Rattle.x2_verdict.proofs.Neighbours.{whole_size, room_left, nearer}
use Rattle.x2_verdict.proofs.second_pass.balise_links.Goals as goal

pub loop-at-init : goal.loop-at-init
loop-at-init c = let m = c.args.m.now in
    (c.requires.1, omega arith, (c.saturating_sub-stop.ensures, omega (arith, c.requires.0.inside, m.regions.inside), omega (arith, c.requires.0.inside, m.bounded.end)))

pub overflow_add-at : goal.overflow_add-at
overflow_add-at c = omega (arith, c.byte_of-size.ensures.below)

pub loop-at-smaller : goal.loop-at-smaller
loop-at-smaller c = nearer _ _ _ (room_left _ _ _ c.loop-at-test.true c.loop-at.invariant.2.0) (omega (arith, c.if-size-lt-SIZE.false))

pub loop-at-preserved : goal.loop-at-preserved
loop-at-preserved c = let h = c.loop-at in
    let m = c.args.m.now in
    let among : h.at < c.args.until = omega (arith, room_left _ _ _ c.loop-at-test.true h.invariant.2.0) in
    let below : h.at < m.l.end = omega (arith, among, c.requires.0.inside) in
    let kind = c.requires.0.kind h.at h.invariant.1 among in
    let size = whole_size m.f.now h.at _ c.byte_of-size.ensures c.if-size-lt-SIZE.false in
    (linking_over h.invariant.0 below kind (c.balise_obeys.ensures c.if-not-balise_obeys.false) size, omega (arith, h.invariant.1), h.invariant.2)
