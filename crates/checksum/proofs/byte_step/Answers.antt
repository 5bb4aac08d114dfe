-- `checksum::byte_step` meets its contract: `by_table` says that what it computes of the entry is the step.
use native.Mathlib.Omega.{arith}
use Rattle.checksum.proofs.ByTable.{by_table}
use Rattle.checksum.proofs.byte_step.Goals as goal

pub returns : goal.returns
returns c = let a = c.args in
    by_table c.entry.result a.register a.byte (omega arith) (omega arith) (c.entry.ensures 0 c.requires)
