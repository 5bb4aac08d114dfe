-- `exports::show_state` meets its contract.
use mathlib.Core.Path.{refl}
use Rattle.verdict.specs.Verdicts.{Verdict}
use Rattle.c_values.specs.Load.{state_answer}
use Rattle.exports.proofs.Ways.{values_shown, fault_shown, named_value_state_after}
use borrow.Author.Rules.{rules}
use Rattle.exports.proofs.show_state.Goals as goal

pub returns-in-Ok : goal.returns-in-Ok
returns-in-Ok c = let t = c.args.step.state in
    let told = c.in-Ok.is in
    named_value_state_after (values_shown (λ (v : Verdict). state_answer v t) refl told _ refl c.state_words.ensures (c.show.ensures.value, c.show.ensures.out_after))

pub returns-in-Err : goal.returns-in-Err
returns-in-Err c = let t = c.args.step.state in
    named_value_state_after (fault_shown (λ (v : Verdict). state_answer v t) refl c.in-Err.is _ refl c.refused.ensures)
