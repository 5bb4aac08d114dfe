-- `transfer::finishing::finish` meets its contract: the room holds as many bytes as the total says.
use Rattle.transfer.proofs.Finished.{total-is}
use Rattle.transfer.proofs.finishing.finish.Goals as goal

pub slice_bounds-f-end : goal.slice_bounds-f-end
slice_bounds-f-end c = total-is c.args.state c.args.room.now c.ready.result c.ready.ensures c.in_ok-ready.was
