-- `exports::yard_load_open` meets its contract.
use Rattle.exports.proofs.Ways.{opening_shown, named_value_state_after}
use borrow.Author.Rules.{rules}
use Rattle.exports.proofs.yard_load_open.Goals as goal

pub returns : goal.returns
returns c = named_value_state_after (opening_shown _ _ _ _ c.opening-step.ensures (c.show_state.ensures.value, c.show_state.ensures.state_after))
