-- `seven_bits::join` meets its contract.
use mathlib.Core.Path.{sym, ◌∙◌}
use Rattle.seven_bits.proofs.Groups.{join_good, join_bad}
use Rattle.seven_bits.proofs.join.Goals as goal

pub returns-then-rest-value : goal.returns-then-rest-value
returns-then-rest-value c = c.found_number.ensures ∙ sym (join_good _ _ _ c.if-rest-value.true)

pub returns-else-rest-value : goal.returns-else-rest-value
returns-else-rest-value c = c.bad_number.ensures ∙ sym (join_bad _ _ _ c.if-rest-value.false)
