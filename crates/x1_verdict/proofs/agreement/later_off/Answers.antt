-- `x1_verdict::agreement::later_off` meets its contract. The invariant: the points after the first one and before p obey, so that the facts of
-- the points from p on give the verdict that those of all points after the first one give.
use Prim.Native.Nat.{ℕ, ◌+◌}
use mathlib.Core.Path.{◌∙◌, ap, sym}
use native.Mathlib.Omega.{arith}
use Rattle.verdict.specs.Facts.{first_fault}
use Rattle.x1_verdict.specs.inner.FirstOff.{points_from}
use Rattle.x1_verdict.proofs.Tracks.{later_over}
use Rattle.x1_verdict.proofs.agreement.later_off.Goals as goal

pub loop-p-init : goal.loop-p-init
loop-p-init c = let a = c.args in
    (omega arith, omega arith, ap (λ (n : ℕ). first_fault (points_from a.f.now a.size a.e (n + a.size))) c.requires.0.first)

pub later_obeys-requires : goal.later_obeys-requires
later_obeys-requires c = record { frame = c.requires.0; after = c.loop-p.invariant.0; before = c.loop-p-test.true }

pub returns-then-not-later_obeys : goal.returns-then-not-later_obeys
returns-then-not-later_obeys c = let t = c.later_obeys in
    let h = c.loop-p in
    record { before = h.invariant.2; here = λ g. sym t.ensures ∙ c.if-not-later_obeys.true; small = h.invariant.1 }

pub loop-p-preserved : goal.loop-p-preserved
loop-p-preserved c = let t = c.later_obeys in
    let h = c.loop-p in
    let a = c.args in
    (omega arith, omega arith, later_over a.f.now a.size a.e c.requires.1 h.p t.result t.ensures c.if-not-later_obeys.false ∙ h.invariant.2)

pub returns : goal.returns
returns c = let h = c.loop-p in
    record { before = h.invariant.2; here = λ g. absurd (omega (arith, g, c.requires.0.last)); small = h.invariant.1 }
