-- `x2_verdict::kind_passes::kind_pass` meets its contract.
use Prim.Native.Nat.{ℕ, ◌+◌}
use mathlib.Core.Path.{◌≡◌, sym, subst}
use native.Mathlib.Omega.{arith}
use Rattle.x2_verdict.proofs.KindTurns.{among_first, among_next, among_last}
use Rattle.x2_verdict.proofs.Stepping.{Steps, steps_whole, steps_fit, steps_on}
use Rattle.x2_verdict.proofs.kind_passes.kind_pass.Goals as goal

pub nonzero_div-at-step : goal.nonzero_div-at-step
nonzero_div-at-step g c = let size = (g.met.K.Plain.plain c.args.f.now c.args.l).size c.args.from in omega (arith, size.least, c.BYTES-at-step.ensures)

pub loop-at-init : goal.loop-at-init
loop-at-init g c = (among_first c.requires.0 c.requires.1 c.requires.2 c.requires.4, steps_whole _ _ _ c.requires.3)

pub passes-requires : goal.passes-requires
passes-requires g c =
    let i = c.loop-at.invariant.0 in
    let fits = steps_fit _ _ _ c.loop-at.invariant.1 c.loop-at-test.true in
    (omega (arith, i.upto, i.most), omega (arith, fits, i.inside))

pub loop-at-smaller : goal.loop-at-smaller
loop-at-smaller g c =
    let size = (g.met.K.Plain.plain c.args.f.now c.args.l).size c.loop-at.at in
    omega (arith, size.least, c.BYTES-at-step.ensures, c.loop-at-test.true)

pub loop-at-preserved : goal.loop-at-preserved
loop-at-preserved g c =
    let h = c.loop-at in
    let fits = steps_fit _ _ _ h.invariant.1 c.loop-at-test.true in (
      among_next (g.met.K.Plain.plain _ _) h.invariant.0 c.BYTES-at-step.ensures c.NAMED.ensures fits c.passes.ensures c.if-not-passes.false c.mark_if.ensures,
      subst (λ (n : ℕ). Steps g.K.Plain.BYTES (h.at + n) c.args.until) (sym c.BYTES-at-step.ensures) (steps_on _ _ _ h.invariant.1 c.loop-at-test.true),
    )

pub returns-else-not-passes : goal.returns-else-not-passes
returns-else-not-passes g c =
    let h = c.loop-at in
    let fits = steps_fit _ _ _ h.invariant.1 c.loop-at-test.true in
    let end : h.at + c.BYTES-at-step.result ≡ c.args.until = omega (arith, fits, c.BYTES-at-step.ensures) in
    among_last (among_next (g.met.K.Plain.plain _ _) h.invariant.0 c.BYTES-at-step.ensures c.NAMED.ensures fits c.passes.ensures c.if-not-passes.false c.mark_if.ensures) end

pub returns : goal.returns
returns g c = among_last c.loop-at.invariant.0 (omega (arith, c.loop-at-test.false, c.loop-at.invariant.0.upto))
