-- `exports::show_degrees` meets its contract.
use mathlib.Core.Path.{refl}
use Rattle.c_values.specs.Degrees.{degrees_laid}
use Rattle.exports.proofs.Ways.{values_shown, fault_shown, named_value_out_after}
use borrow.Author.Rules.{rules}
use Rattle.exports.proofs.show_degrees.Goals as goal

pub returns-in-Ok : goal.returns-in-Ok
returns-in-Ok c = named_value_out_after (values_shown degrees_laid refl c.in-Ok.is _ refl c.degrees_words.ensures (c.show.ensures.value, c.show.ensures.out_after))

pub returns-in-Err : goal.returns-in-Err
returns-in-Err c = named_value_out_after (fault_shown degrees_laid refl c.in-Err.is _ refl c.refused.ensures)
