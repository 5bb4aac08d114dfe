-- `octets::distance_of` meets its contract.
use Rattle.octets.proofs.Signs.{low_distance, high_distance}
use borrow.Author.Rules.{rules}
use Rattle.octets.proofs.distance_of.Goals as goal

pub returns-then-n-half : goal.returns-then-n-half
returns-then-n-half c = low_distance _ _ c.if-n-half.true

pub returns-else-n-half : goal.returns-else-n-half
returns-else-n-half c = high_distance _ _ c.if-n-half.false (search rules)
