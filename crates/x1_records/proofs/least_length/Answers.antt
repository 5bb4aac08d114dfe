-- `x1_records::least_length` meets its contract.
use borrow.Author.Tests.{lt-ltb, le-ltb}
use Rattle.x1_records.specs.Places.{least_length_in}
use Rattle.x1_records.proofs.least_length.Goals as goal

pub returns-then-version-lt-HEIGHTS_FROM : goal.returns-then-version-lt-HEIGHTS_FROM
unfolding least_length_in
returns-then-version-lt-HEIGHTS_FROM c = simp (lt-ltb _ _ c.if-version-lt-HEIGHTS_FROM.true)

pub returns : goal.returns
unfolding least_length_in
returns c = simp (le-ltb _ _ c.if-version-lt-HEIGHTS_FROM.false)
