-- `x1_verdict::pass::later_pass` meets its contract. The invariant: the points after the first one and before p have passed, and `before` is
-- the position of the point before p.
use Prim.Native.Nat.{ℕ, ◌+◌, ◌-◌}
use mathlib.Core.Path.{◌≡◌, ◌∙◌, refl, sym, ap}
use native.Mathlib.Omega.{arith}
use Rattle.tables.specs.Table.{value_of}
use Rattle.x1_records.specs.Rows.{position}
use Rattle.x1_verdict.proofs.Passing.{roomy_inside, later_start, later_step}
use Rattle.x1_verdict.proofs.pass.later_pass.Goals as goal

pub roomy_pass-requires : goal.roomy_pass-requires
roomy_pass-requires c = let a = c.args in
    (roomy_inside a.f.now a.e a.t _ c.requires.0 (omega arith) c.if-t-inside.true, c.requires.1, refl)

pub returns-then-t-inside : goal.returns-then-t-inside
returns-then-t-inside c = c.roomy_pass.ensures

pub loop-p-init : goal.loop-p-init
loop-p-init c = let a = c.args in
    let back : a.t.first + a.size - a.size ≡ a.t.first = omega arith in (
      c.number_of-before.ensures.is ∙ ap (λ (n : ℕ). value_of a.f.now n position) (sym back),
      later_start a.f.now a.size a.e a.t.first c.requires.0.first (omega arith),
    )

pub returns-then-f-p : goal.returns-then-f-p
returns-then-f-p c = c.loop-p.invariant.1

pub later_passes-requires : goal.later_passes-requires
later_passes-requires c = let h = c.loop-p in
    let frame = c.requires.0 in
    (record { frame = frame; after = omega (arith, frame.first, h.invariant.1.after); before = c.loop-p-test.true }, h.invariant.0, c.number_of-here.ensures.is)

pub returns-then-not-later_passes : goal.returns-then-not-later_passes
returns-then-not-later_passes c = c.loop-p.invariant.1

pub loop-p-preserved : goal.loop-p-preserved
loop-p-preserved c = let point = c.later_passes in
    let h = c.loop-p in
    let a = c.args in
    let back : h.p + a.size - a.size ≡ h.p = omega arith in (
      c.number_of-here.ensures.is ∙ ap (λ (n : ℕ). value_of a.f.now n position) (sym back),
      later_step a.f.now a.size a.e h.p c.requires.1 (omega (arith, c.loop-p-test.true)) (point.ensures (c.if-not-later_passes.false)) h.invariant.1,
    )

pub returns : goal.returns
returns c = c.loop-p.invariant.1
