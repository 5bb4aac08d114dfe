-- `exports::yard_ahead` meets its contract.
use mathlib.Core.Path.{ap, ◌∙◌}
use Rattle.c_values.specs.Ahead.{ahead_shown}
use borrow.Author.Rules.{rules}
use Rattle.exports.proofs.yard_ahead.Goals as goal

pub returns : goal.returns
returns c = record { value = c.ahead_answer.ensures ∙ ap ahead_shown c.ahead.ensures.value; out_after = c.ahead.ensures.out_after }
