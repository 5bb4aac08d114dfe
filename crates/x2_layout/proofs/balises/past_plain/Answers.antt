-- `x2_layout::balises::past_plain` meets its contract. The invariant: the balises before `at` obey.
use native.Mathlib.Omega.{arith}
use Rattle.x2_layout.proofs.Sizes.{passed_plain}
use Rattle.x2_layout.proofs.balises.past_plain.Goals as goal

pub loop-at-preserved : goal.loop-at-preserved
loop-at-preserved c = let h = c.loop-at in
    let a = c.args in
    (passed_plain a.f.now a.from h.at a.until c.if-f-at.true (omega arith) h.invariant.0, omega arith)
