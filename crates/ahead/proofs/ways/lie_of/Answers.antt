-- `ahead::ways::lie_of` meets its contract.
use Rattle.std.proofs.Common.{rules}
use Rattle.ahead.specs.Lies.{lie_of}
use Rattle.ahead.proofs.ways.lie_of.Goals as goal

pub returns : goal.returns
unfolding lie_of
returns c = search rules
