-- `x1_records::Point::read` meets its contract.
use native.Mathlib.Omega.{arith}
use Rattle.x1_records.proofs.Reading.{held, point_made}
use Rattle.x1_records.proofs.Point.read.Goals as goal

pub returns : goal.returns
returns c = point_made _ _ _ _ _ _ _ _ _
    c.number_of.ensures.is
    (held 3 _ _ _ (omega arith) c.signed_of.ensures)
    (held 3 _ _ _ (omega arith) c.signed_of-2.ensures)
    (held 2 _ _ _ (omega arith) c.signed_of-3.ensures)
    c.number_of-2.ensures.is
    c.height.ensures
