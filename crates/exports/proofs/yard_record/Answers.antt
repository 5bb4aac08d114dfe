-- `exports::yard_record` meets its contract.
use mathlib.Core.Path.{refl}
use Rattle.x2_verdict.specs.Answers.{record_answer}
use Rattle.exports.proofs.Ways.{values_shown, fault_shown, named_value_out_after}
use borrow.Author.Rules.{rules}
use Rattle.exports.proofs.yard_record.Goals as goal

pub returns-in-Ok : goal.returns-in-Ok
returns-in-Ok c = named_value_out_after (values_shown record_answer c.record_at.ensures c.in-Ok.is _ refl c.record_words.ensures (c.show.ensures.value, c.show.ensures.out_after))

pub returns-in-Err : goal.returns-in-Err
returns-in-Err c = named_value_out_after (fault_shown record_answer c.record_at.ensures c.in-Err.is _ refl c.refused.ensures)
