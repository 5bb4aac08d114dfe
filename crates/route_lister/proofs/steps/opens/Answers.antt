-- `route_lister::opens` meets its contract: each test that fails is a way in which no walk is opened.
use mathlib.Core.Path.{◌≡◌, sym, ◌∙◌}
use mathlib.Core.Bool.{Bool, true, false, not, true≢false}
use mathlib.Core.Logic.{inl, inr}
use Rattle.route_lister.proofs.steps.opens.Goals as goal

not-true : (b : Bool) → not b ≡ true → b ≡ false
not-true true e = sym e
not-true false e = λ i. false

not-false : (b : Bool) → not b ≡ false → b ≡ true
not-false true e = λ i. true
not-false false e = sym e

pub returns-then-to-eq0 : goal.returns-then-to-eq0
returns-then-to-eq0 c = record { open_if = λ e. absurd (true≢false (sym e)); shut_if = λ e. inl c.if-to-eq0.true }

pub returns-then-left-eq0 : goal.returns-then-left-eq0
returns-then-left-eq0 c = record { open_if = λ e. absurd (true≢false (sym e)); shut_if = λ e. inr (inl c.if-left-eq0.true) }

pub returns-then-budget-walks : goal.returns-then-budget-walks
returns-then-budget-walks c = record { open_if = λ e. absurd (true≢false (sym e)); shut_if = λ e. inr (inr (inl c.if-budget-walks.true)) }

pub returns : goal.returns
returns c = let p = c.stands in
    record {
      open_if = λ e. record { named = c.if-to-eq0.false; allowed = c.if-left-eq0.false; within = c.if-budget-walks.false; fresh = sym p.ensures ∙ not-true p.result e };
      shut_if = λ e. inr (inr (inr (sym p.ensures ∙ not-false p.result e)));
    }
