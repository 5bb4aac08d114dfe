-- `names::code_count` meets its contract. The loop's invariant: no code that was passed begins with a zero.
use Prim.Native.Nat.{◌*◌}
use mathlib.Core.Path.{sym, ◌∙◌}
use native.Mathlib.Omega.{arith}
use borrow.Author.Count.{below_more}
use Rattle.names.specs.Names.{byte_after, code_count}
use Rattle.names.proofs.Counts.{counted}
use borrow.Author.Rules.{rules}
use Rattle.names.proofs.code_count.Goals as goal

pub returns-then-byte_after-eq0 : goal.returns-then-byte_after-eq0
unfolding code_count
returns-then-byte_after-eq0 c = let a = c.args in
    let h = c.loop-n in
    counted (λ k. byte_after a.f.now a.place (2 * k)) 8 h.n h.invariant.0 h.invariant.1 (λ l. sym c.byte_after.ensures.is ∙ c.if-byte_after-eq0.true)

pub loop-n-preserved : goal.loop-n-preserved
loop-n-preserved c = let h = c.loop-n in
    (search rules, below_more _ h.n h.invariant.1 (λ e. c.if-byte_after-eq0.false (c.byte_after.ensures.is ∙ e)))

pub returns : goal.returns
unfolding code_count
returns c = let a = c.args in
    let h = c.loop-n in
    counted (λ k. byte_after a.f.now a.place (2 * k)) 8 8 (omega arith) (λ k l. h.invariant.1 k (omega (arith, c.loop-n-test.false))) (λ l. absurd (omega arith))
