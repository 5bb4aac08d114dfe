-- `checksum::of` meets its contract, in each of its three ways.
use borrow.Author.Rules.{rules}
use Rattle.checksum.specs.Checksum.{checksum_of}
use Rattle.checksum.proofs.of.Goals as goal

pub returns-then-s-lt-MANY : goal.returns-then-s-lt-MANY
unfolding checksum_of
returns-then-s-lt-MANY c = search rules
