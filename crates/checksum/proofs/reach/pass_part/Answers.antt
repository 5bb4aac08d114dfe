-- `checksum::reach::pass_part` meets its contract: the bytes are passed on, and the row is moved by as many places.
use Rattle.checksum.proofs.Row.{passes}
use Rattle.checksum.proofs.reach.pass_part.Goals as goal

pub returns : goal.returns
returns c = passes _ _ _ _ c.pass_on.ensures c.move_row.ensures
