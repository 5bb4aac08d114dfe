-- `x1_verdict::pass::roomy_pass` meets its contract. The invariant is that of `later_pass`: the points after the first one and before p have
-- passed, and `before` is the position of the point before p.
use Prim.Native.Nat.{ℕ, ◌+◌, ◌-◌}
use mathlib.Core.Path.{◌≡◌, ◌∙◌, sym, ap, subst}
use native.Mathlib.Omega.{arith}
use Rattle.tables.specs.Table.{value_of}
use Rattle.x1_records.specs.Rows.{position}
use Rattle.x1_verdict.specs.inner.FirstOff.{Later}
use Rattle.x1_verdict.specs.inner.Pass.{LaterPassed}
use Rattle.x1_verdict.proofs.Passing.{later_start, later_step, roomy_passed}
use Rattle.x1_verdict.proofs.pass.roomy_pass.Goals as goal

pub loop-p-init : goal.loop-p-init
loop-p-init c = let a = c.args in
    (c.four_inside-before.ensures.is, subst (LaterPassed a.f.now a.size a.e) (sym c.requires.2) (later_start a.f.now a.size a.e a.t.first c.requires.0.frame.first (omega arith)))

pub returns-then-here-before : goal.returns-then-here-before
returns-then-here-before c = c.loop-p.invariant.1

pub returns-then-not-heading : goal.returns-then-not-heading
returns-then-not-heading c = c.loop-p.invariant.1

pub returns-then-byte_inside-gt1 : goal.returns-then-byte_inside-gt1
returns-then-byte_inside-gt1 c = c.loop-p.invariant.1

pub loop-p-preserved : goal.loop-p-preserved
loop-p-preserved c = let near = c.byte_inside in
    let heading = c.two_inside-heading in
    let here = c.four_inside-here in
    let test = c.loop-p-test in
    let h = c.loop-p in
    let a = c.args in
    let frame = c.requires.0.frame in
    let later : Later a.f.now a.size a.e a.t h.p = record { frame = frame; after = omega (arith, frame.first, h.invariant.1.after); before = test.true } in
    let point =
    roomy_passed a.f.now a.size a.e h.p a.t c.requires.0.roomy later h.before here.result h.invariant.0 here.ensures.is c.if-here-before.false
    heading.result heading.ensures (c.if-not-heading.false) near.result near.ensures c.if-byte_inside-gt1.false
    in
    let back : h.p + a.size - a.size ≡ h.p = omega arith in (
      here.ensures.is ∙ ap (λ (n : ℕ). value_of a.f.now n position) (sym back),
      later_step a.f.now a.size a.e h.p c.requires.1 (omega (arith, test.true, c.struct_known-1.given)) point h.invariant.1,
    )

pub returns : goal.returns
returns c = c.loop-p.invariant.1
