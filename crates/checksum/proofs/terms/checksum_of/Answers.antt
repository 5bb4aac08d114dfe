-- `checksum::terms::checksum_of` meets its contract: the start value is the definition's.
use Rattle.checksum.specs.Checksum.{checksum_of}
use Rattle.checksum.proofs.terms.checksum_of.Goals as goal

pub returns : goal.returns
unfolding checksum_of
returns c = c.checksum_from.ensures
