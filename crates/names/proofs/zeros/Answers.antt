-- `names::zeros` meets its contract. The loop's invariant: only zeros were passed.
use mathlib.Core.Path.{◌∙◌}
use borrow.Author.Count.{below_more}
use Rattle.names.proofs.Spelling.{byte-is, zeros_stop, zeros_end}
use borrow.Author.Rules.{rules}
use Rattle.names.proofs.zeros.Goals as goal

pub returns-then-f-place-ne0 : goal.returns-then-f-place-ne0
returns-then-f-place-ne0 c = let l = c.loop-k in
    zeros_stop _ _ _ _ _ l.k c.inside-top.ensures c.loop-k-test.true l.invariant.0 c.if-f-place-ne0.true

pub loop-k-preserved : goal.loop-k-preserved
loop-k-preserved c = let a = c.args in
    let l = c.loop-k in
    (search rules, below_more _ l.k l.invariant.1 (λ h. byte-is a.f.now a.place l.k ∙ c.if-f-place-ne0.false))

pub returns : goal.returns
returns c = let l = c.loop-k in
    zeros_end _ _ _ _ _ l.k c.inside-top.ensures c.loop-k-test.false l.invariant.1
