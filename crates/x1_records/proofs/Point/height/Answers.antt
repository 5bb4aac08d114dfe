-- `x1_records::Point::height` meets its contract.
use native.Mathlib.Omega.{arith}
use borrow.Author.Tests.{lt-leb, le-leb}
use Rattle.x1_records.specs.Tracks.{height_at}
use Rattle.x1_records.proofs.Reading.{held}
use Rattle.x1_records.proofs.Point.height.Goals as goal

pub returns-then-size-lt-SIZE_WITH_HEIGHT : goal.returns-then-size-lt-SIZE_WITH_HEIGHT
unfolding height_at
returns-then-size-lt-SIZE_WITH_HEIGHT c = simp (lt-leb _ _ c.if-size-lt-SIZE_WITH_HEIGHT.true)

pub returns : goal.returns
unfolding height_at
returns c = simp (le-leb _ _ c.if-size-lt-SIZE_WITH_HEIGHT.false, held 2 _ _ _ (omega arith) c.signed_of.ensures)
