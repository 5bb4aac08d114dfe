-- `x2_links::marks::mark_targets` meets its contract.
use Prim.Native.Nat.{◌+◌}
use native.Mathlib.Omega.{arith}
use Rattle.x2_links.proofs.Marking.{marking_none, marking_step, marking_all}
use Rattle.x2_links.proofs.marks.mark_targets.Goals as goal

pub loop-at-init : goal.loop-at-init
loop-at-init c = let a = c.args in marking_none a.f.now a.l a.marks.now c.requires.1 c.requires.2

pub loop-at-preserved : goal.loop-at-preserved
loop-at-preserved c = let a = c.args in
    let h = c.loop-at in
    let below = c.loop-at-test.true in
    let kind = c.kind_at-k.ensures in
    marking_step a.f.now a.l h.marks h.at (h.at + c.size_of-at.result) c.mark_if-mark.result below (omega arith)
    (simp (c.mark_if-mark.ensures, c.may_link.ensures, kind)) (simp (c.size_of-at.ensures.is, kind)) h.invariant

pub returns : goal.returns
returns c = let a = c.args in marking_all a.f.now a.l c.loop-at.marks c.loop-at.at c.loop-at-test.false c.loop-at.invariant
