-- `x2_links::named::may_name` meets its contract. The loop's invariant: what is found from the record at `at` on is what is found at all.
use mathlib.Core.Path.{◌≡◌, sym, ◌∙◌}
use native.Mathlib.Omega.{arith}
use Rattle.verdict.specs.Facts.{test}
use Rattle.x2_layout.specs.Records.{kind_at}
use Rattle.x2_links.specs.Links.{linkable, is_target}
use Rattle.x2_links.proofs.Seeking.{found_from, found_first, found_next, found_here, found_past, found_end, too_high, answered}
use Rattle.x2_links.proofs.named.may_name.Goals as goal

pub returns-then-x-gt-PLACE_MOST : goal.returns-then-x-gt-PLACE_MOST
returns-then-x-gt-PLACE_MOST c = let a = c.args in too_high a.f.now a.l a.x c.if-x-gt-PLACE_MOST.true

pub returns-then-l-x : goal.returns-then-l-x
returns-then-l-x c = let a = c.args in
    answered a.f.now a.l a.x _ (omega arith) (sym (found_end a.f.now a.l a.x (omega arith)))

pub loop-at-init : goal.loop-at-init
loop-at-init c = let a = c.args in found_first a.f.now a.l a.x

pub loop-at-preserved : goal.loop-at-preserved
loop-at-preserved c = let a = c.args in
    let h = c.loop-at in
    found_next a.f.now a.l a.x h.at _ c.loop-at-test.true (omega arith) (simp (c.size_of-at.ensures.is, c.kind_at.ensures))
    ∙ h.invariant

pub returns-then-at-x : goal.returns-then-at-x
returns-then-at-x c = let a = c.args in
    let h = c.loop-at in
    answered a.f.now a.l a.x _ (omega arith) (sym (found_past a.f.now a.l a.x h.at (omega arith)) ∙ h.invariant)

pub returns : goal.returns
returns c = let a = c.args in
    let h = c.loop-at in
    let e : h.at ≡ a.x = omega arith in
    let found : found_from a.f.now a.l a.x a.x ≡ test (is_target a.f.now a.l a.x) = rw e at h.invariant in
    let may : c.may_link.result ≡ test (linkable a.f.now (kind_at a.l a.x) a.x) = simp (c.may_link.ensures, c.kind_at-2.ensures) in
    answered a.f.now a.l a.x _ (omega arith) (may ∙ sym (found_here a.f.now a.l a.x (omega arith)) ∙ found)
