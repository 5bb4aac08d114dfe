-- `x1_verdict::agreement::number_obeys` meets its contract.
use mathlib.Core.Path.{sym, ◌∙◌}
use mathlib.Core.Bool.{and-true}
use Rattle.x1_verdict.proofs.agreement.number_obeys.Goals as goal

pub returns-then-is_first : goal.returns-then-is_first
returns-then-is_first c = simp (sym c.is_first.ensures ∙ c.if-is_first.true)

pub returns : goal.returns
returns c = simp (and-true, sym c.is_first.ensures ∙ c.if-is_first.false, c.number_of-2.ensures.is, c.number_of.ensures.is, c.entry_before.ensures)
