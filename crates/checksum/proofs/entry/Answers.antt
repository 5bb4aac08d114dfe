-- `checksum::entry` meets its contract: it is what a right table says of the row and the byte.
use Rattle.checksum.specs.inner.Table.{RightTable}
use Rattle.checksum.proofs.entry.Goals as goal

pub returns : goal.returns
unfolding RightTable
returns c = λ n right. right c.args.row c.args.byte c.requires.0 c.requires.1
