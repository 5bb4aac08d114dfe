-- `x2_verdict::second_pass::kind_links` meets its contract.
use Prim.Native.Nat.{ℕ, ◌<◌, ◌+◌}
use mathlib.Core.Path.{◌≡◌, sym, subst}
use native.Mathlib.Omega.{arith}
use Rattle.x2_layout.specs.Records.{IsSize}
use Rattle.x2_verdict.specs.inner.Passes.{Linking}
use Rattle.x2_verdict.proofs.Passes.{linking_over}
use Rattle.x2_verdict.proofs.Stepping.{Steps, steps_whole, steps_fit, steps_on}
use Rattle.x2_verdict.proofs.second_pass.kind_links.Goals as goal

pub nonzero_div-at-step : goal.nonzero_div-at-step
nonzero_div-at-step g c =
    let m = c.args.m.now in
    let size = (g.met.K.Plain.plain m.f.now m.l).size c.args.from in
    omega (arith, size.least, c.BYTES-at-step.ensures)

pub loop-at-init : goal.loop-at-init
loop-at-init g c = (c.requires.2, omega arith, c.requires.0.order, steps_whole _ _ _ c.requires.1)

pub links_obey-requires : goal.links_obey-requires
links_obey-requires g c = let fits = steps_fit _ _ _ c.loop-at.invariant.3 c.loop-at-test.true in omega (arith, fits, c.requires.0.inside, c.args.m.now.regions.inside)

pub loop-at-smaller : goal.loop-at-smaller
loop-at-smaller g c =
    let m = c.args.m.now in
    let size = (g.met.K.Plain.plain m.f.now m.l).size c.loop-at.at in
    omega (arith, size.least, c.BYTES-at-step.ensures, c.loop-at-test.true)

pub loop-at-preserved : goal.loop-at-preserved
loop-at-preserved g c =
    let h = c.loop-at in
    let m = c.args.m.now in
    let size : IsSize m.f.now g.K.Plain.sort h.at c.BYTES-at-step.result = subst (IsSize m.f.now g.K.Plain.sort h.at) (sym c.BYTES-at-step.ensures) ((g.met.K.Plain.plain m.f.now m.l).size h.at) in
    let below : h.at < m.l.end = omega (arith, c.loop-at-test.true, c.requires.0.inside) in
    let kind = c.requires.0.kind h.at h.invariant.1 c.loop-at-test.true in
    let fits = steps_fit _ _ _ h.invariant.3 c.loop-at-test.true in (
      linking_over h.invariant.0 below kind (c.links_obey.ensures c.if-not-links_obey.false h.last) size,
      omega (arith, h.invariant.1),
      omega (arith, fits, c.BYTES-at-step.ensures),
      subst (λ (n : ℕ). Steps g.K.Plain.BYTES (h.at + n) c.args.until) (sym c.BYTES-at-step.ensures) (steps_on _ _ _ h.invariant.3 c.loop-at-test.true),
    )

pub returns-else-not-links_obey : goal.returns-else-not-links_obey
returns-else-not-links_obey g c =
    let h = c.loop-at in
    let m = c.args.m.now in
    let size : IsSize m.f.now g.K.Plain.sort h.at c.BYTES-at-step.result = subst (IsSize m.f.now g.K.Plain.sort h.at) (sym c.BYTES-at-step.ensures) ((g.met.K.Plain.plain m.f.now m.l).size h.at) in
    let below : h.at < m.l.end = omega (arith, c.loop-at-test.true, c.requires.0.inside) in
    let kind = c.requires.0.kind h.at h.invariant.1 c.loop-at-test.true in
    let fits = steps_fit _ _ _ h.invariant.3 c.loop-at-test.true in
    let end : h.at + c.BYTES-at-step.result ≡ c.args.until = omega (arith, fits, c.BYTES-at-step.ensures) in
    subst (λ (x : ℕ). Linking m.f.now m.l h.at x) end (linking_over h.invariant.0 below kind (c.links_obey.ensures c.if-not-links_obey.false h.last) size)

pub returns : goal.returns
returns g c =
    let m = c.args.m.now in
    let end : c.loop-at.at ≡ c.args.until = omega (arith, c.loop-at-test.false, c.loop-at.invariant.2) in
    subst (λ (x : ℕ). Linking m.f.now m.l c.loop-at.last x) end c.loop-at.invariant.0
