-- `names::codes` meets its contract. The loop's invariant: what was found, and the test of the pairs from the k-th on, make the test of them all.
use mathlib.Core.Path.{refl, sym, ◌∙◌}
use mathlib.Core.Bool.{◌&&◌}
use Rattle.names.specs.Names.{code_at, codes}
use Rattle.names.proofs.Counts.{each_step, each_stop}
use Rattle.names.proofs.codes.Goals as goal

pub loop-k-init : goal.loop-k-init
unfolding codes
loop-k-init c = refl

pub loop-k-preserved : goal.loop-k-preserved
loop-k-preserved c = let a = c.args in
    let h = c.loop-k in
    each_step (λ i. code_at a.f.now a.place i) a.n h.ok (h.ok && c.is_code-ok.result) h.k
    c.loop-k-test.true (rw (c.is_code-ok.ensures, c.byte_after-b.ensures.is, c.byte_after-a.ensures.is))
    ∙ h.invariant

pub returns : goal.returns
returns c = let a = c.args in
    let h = c.loop-k in
    sym (each_stop (λ i. code_at a.f.now a.place i) a.n h.ok h.k c.loop-k-test.false) ∙ h.invariant
