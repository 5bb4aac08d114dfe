-- `checksum::reach::pass_all` meets its contract. The loop's invariant: the blocks before this one have been passed on.
use Rattle.std.proofs.Common.{◌*◌, take}
use Rattle.checksum.specs.inner.Reach.{Passes}
use Rattle.checksum.proofs.reach.pass_all.Given as goal

abbrev pub invariant-loop-block : goal.invariant-loop-block
invariant-loop-block l = Passes (take (l.block-index * 2048) l.fn.s) l.initial.row l.row
