-- `checksum::with_tables` meets its contract. The tables' rule is tests that the prover computes, at `by-table-requires`.
use mathlib.Core.Path.{refl}
use Rattle.checksum.specs.Checksum.{step, bit_step, bit_steps, byte_step}
use Rattle.checksum.proofs.Entries.{right_tables}
use Rattle.checksum.proofs.with_tables.Goals as goal

pub by_table-requires : goal.by_table-requires
unfolding byte_step bit_steps bit_step step
by_table-requires c = right_tables _ _ refl refl refl refl tt tt tt tt tt tt
