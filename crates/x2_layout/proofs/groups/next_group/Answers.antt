-- `x2_layout::groups::next_group` meets its contract. The invariant: the next nonzero offset from j on, and its field, are those from i on.
use mathlib.Core.Path.{◌∙◌, refl}
use native.Mathlib.Omega.{arith}
use Rattle.x2_layout.proofs.Loops.{next-none, next-empty, next_there, field-none, field_empty, field-there}
use borrow.Author.Rules.{rules}
use Rattle.x2_layout.proofs.groups.next_group.Goals as goal

pub loop-j-init : goal.loop-j-init
loop-j-init c = (refl, refl)

pub returns-then-start-ne0 : goal.returns-then-start-ne0
returns-then-start-ne0 c = let off = c.u16_at-start in
    let below = off.ensures.below in
    let h = c.loop-j in
    let taken = c.loop-j-test.true in
    let start = next_there _ _ h.j off.result off.ensures.is taken c.if-start-ne0.true ∙ h.invariant.0 in
    let field = field-there _ _ h.j off.result off.ensures.is taken c.if-start-ne0.true ∙ h.invariant.1 in
    record { start = start; below = omega arith; field = field }

pub loop-j-preserved : goal.loop-j-preserved
loop-j-preserved c = let off = c.u16_at-start in
    let h = c.loop-j in
    let taken = c.loop-j-test.true in (
      next-empty _ _ h.j off.result off.ensures.is taken c.if-start-ne0.false ∙ h.invariant.0,
      field_empty _ _ h.j off.result off.ensures.is taken c.if-start-ne0.false ∙ h.invariant.1,
    )

pub returns : goal.returns
returns c = let h = c.loop-j in
    record { start = next-none _ _ h.j c.loop-j-test.false ∙ h.invariant.0; below = search rules; field = field-none _ _ h.j c.loop-j-test.false ∙ h.invariant.1 }
