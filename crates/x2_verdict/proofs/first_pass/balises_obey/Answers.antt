-- `x2_verdict::first_pass::balises_obey` meets its contract. The invariant: the records before `at` are passed over, and `at` lies among
-- the balises, or where they end. They all lie inside the file.
use Prim.Native.Nat.{ℕ, ◌<◌}
use mathlib.Core.Path.{subst}
use native.Mathlib.Omega.{arith}
use native.Mathlib.Nat.{le_refl}
use Rattle.x2_kinds.proofs.Checks.{no_message_tested}
use Rattle.x2_verdict.specs.inner.Passes.{Passing}
use Rattle.x2_verdict.proofs.Balises.{plain_size, whole_size, message_right, balise_over}
use Rattle.x2_verdict.proofs.first_pass.balises_obey.Goals as goal

pub loop-at-init : goal.loop-at-init
loop-at-init c = (λ l b s p. p, omega arith, omega (arith, c.requires.1.order))

pub mark_lead-requires : goal.mark_lead-requires
mark_lead-requires c = (omega (arith, c.loop-at.invariant.2, c.requires.1.inside, c.requires.0.end), (c.loop-at.invariant.0 _ c.requires.0 c.requires.1 c.requires.2).marked.blank _ (le_refl _))

pub overflow_cast-last : goal.overflow_cast-last
overflow_cast-last c = omega (arith, c.loop-at.invariant.2, c.requires.1.inside, c.requires.0.end)

pub loop-at-smaller-then-size-le-SIZE : goal.loop-at-smaller-then-size-le-SIZE
loop-at-smaller-then-size-le-SIZE c = omega (arith, c.loop-at-test.true)

pub loop-at-preserved-then-size-le-SIZE : goal.loop-at-preserved-then-size-le-SIZE
loop-at-preserved-then-size-le-SIZE c = let a = c.args in
    let turn = c.loop-at-test.true in
    let below : c.loop-at.at < a.until = omega (arith, turn) in (
      λ l b r p.
          balise_over r b.end c.loop-at.invariant.1 below (c.loop-at.invariant.0 l b r p)
          (c.fixed_passes.ensures c.if-not-fixed_passes.false)
          (c.group_passes.ensures c.if-not-group_passes.false)
          c.leads.ensures c.mark_lead.ensures
          (no_message_tested a.f.now c.loop-at.at c.byte_of-size.result c.byte_of-size.ensures.is c.if-size-le-SIZE.true)
          (plain_size a.f.now c.loop-at.at c.byte_of-size.result c.byte_of-size.ensures.is c.if-size-le-SIZE.true),
      omega (arith, c.loop-at.invariant.1),
      omega (arith, turn),
    )

pub loop-at-preserved : goal.loop-at-preserved
loop-at-preserved c = let a = c.args in
    let turn = c.loop-at-test.true in
    let below : c.loop-at.at < a.until = omega (arith, turn) in
    let ends = c.message_passes.ensures c.if-not-message_passes.false in (
      λ l b r p.
          balise_over r b.end c.loop-at.invariant.1 below (c.loop-at.invariant.0 l b r p)
          (c.fixed_passes.ensures c.if-not-fixed_passes.false)
          (c.group_passes.ensures c.if-not-group_passes.false)
          c.leads.ensures c.mark_lead.ensures
          (message_right a.f.now c.loop-at.at c.byte_of-size.result c.byte_of-size.ensures.is a.until c.if-size-le-SIZE.false ends)
          (whole_size a.f.now c.loop-at.at c.byte_of-size.result c.byte_of-size.ensures.is c.if-size-le-SIZE.false c.byte_of-size.ensures.below),
      omega (arith, c.loop-at.invariant.1),
      ends.inside,
    )

pub returns : goal.returns
returns c = let a = c.args in
    subst (λ (x : ℕ). Passing a.f.now a.l c.loop-at.marks c.loop-at.last x) c.if-at-until.false (c.loop-at.invariant.0 _ c.requires.0 c.requires.1 c.requires.2)
