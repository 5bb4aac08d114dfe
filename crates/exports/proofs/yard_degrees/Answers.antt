-- `exports::yard_degrees` meets its contract.
use Rattle.c_values.specs.Degrees.{degrees_laid}
use Rattle.exports.proofs.Ways.{given_shown, named_value_out_after}
use borrow.Author.Rules.{rules}
use Rattle.exports.proofs.yard_degrees.Goals as goal

pub returns : goal.returns
returns c = named_value_out_after (given_shown degrees_laid c.degrees_at.ensures _ (c.show_degrees.ensures.value, c.show_degrees.ensures.out_after))
