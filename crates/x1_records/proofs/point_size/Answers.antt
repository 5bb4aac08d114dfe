-- `x1_records::point_size` meets its contract.
use borrow.Author.Tests.{lt-ltb, le-ltb}
use Rattle.x1_records.specs.Places.{point_size}
use Rattle.x1_records.proofs.point_size.Goals as goal

pub returns-then-version-lt-HEIGHTS_FROM : goal.returns-then-version-lt-HEIGHTS_FROM
unfolding point_size
returns-then-version-lt-HEIGHTS_FROM c = simp (lt-ltb _ _ c.if-version-lt-HEIGHTS_FROM.true)

pub returns : goal.returns
unfolding point_size
returns c = simp (le-ltb _ _ c.if-version-lt-HEIGHTS_FROM.false)
