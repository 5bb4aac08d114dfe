-- `transfer::pieces::piece` meets its contract: one law for each way out.
use native.Mathlib.Omega.{arith}
use Rattle.transfer.proofs.Taking.{refused_step, refused_room, sum_fits, starts_in, bytes_fit, taken_step, taken_room}
use Rattle.transfer.proofs.pieces.piece.Goals as goal

pub returns-in_default : goal.returns-in_default
returns-in_default c = record { value = refused_step c.args.state c.args.s.now c.args.room.now _ _ c.stated_in-p.ensures c.piece_verdict-verdict.ensures _ c.in_default.is; room_after = refused_room c.args.state c.args.s.now c.args.room.now _ _ c.stated_in-p.ensures c.piece_verdict-verdict.ensures _ c.in_default.is }

pub overflow_add-next : goal.overflow_add-next
overflow_add-next c = omega (arith, sum_fits c.args.state c.args.s.now c.args.room.now _ _ c.stated_in-p.ensures c.piece_verdict-verdict.ensures c.in-Ok.is)

pub slice_bounds-copy-count : goal.slice_bounds-copy-count
slice_bounds-copy-count c = starts_in c.args.state c.args.s.now c.args.room.now _ _ c.stated_in-p.ensures c.piece_verdict-verdict.ensures c.in-Ok.is

pub slice_bounds-copy-start : goal.slice_bounds-copy-start
slice_bounds-copy-start c = starts_in c.args.state c.args.s.now c.args.room.now _ _ c.stated_in-p.ensures c.piece_verdict-verdict.ensures c.in-Ok.is

pub copy-requires : goal.copy-requires
copy-requires c = bytes_fit c.args.state c.args.s.now c.args.room.now _ _ c.stated_in-p.ensures c.piece_verdict-verdict.ensures c.in-Ok.is

pub returns : goal.returns
returns c = record { value = taken_step c.args.state c.args.s.now c.args.room.now _ _ c.stated_in-p.ensures c.piece_verdict-verdict.ensures c.in-Ok.is; room_after = taken_room c.args.state c.args.s.now c.args.room.now _ _ c.stated_in-p.ensures c.piece_verdict-verdict.ensures c.in-Ok.is _ c.copy.ensures }
