-- `exports::yard_load_piece` meets its contract.
use Rattle.exports.proofs.Ways.{taking_shown, taking_room}
use borrow.Author.Rules.{rules}
use Rattle.exports.proofs.yard_load_piece.Goals as goal

pub returns : goal.returns
returns c = let show = c.show_state in
    let a = c.args in
    let is = c.state_in.ensures in
    let h = taking_shown a.state.now a.piece.now a.room.now _ is c.piece-step.ensures.value (c.show_state.ensures.value, c.show_state.ensures.state_after) in
    record { value = h.0; state_after = h.1; room_after = taking_room a.state.now a.piece.now a.room.now _ is c.piece-step.ensures.room_after }
