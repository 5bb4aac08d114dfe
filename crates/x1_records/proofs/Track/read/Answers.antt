-- `x1_records::Track::read` meets its contract.
use native.Mathlib.Omega.{arith}
use Rattle.x1_records.proofs.Reading.{held, track_made}
use Rattle.x1_records.proofs.Track.read.Goals as goal

pub returns : goal.returns
returns c = track_made _ _ _ _ _ _ _ _ _ _ _ _ _
    c.number_of.ensures.is
    c.number_of-2.ensures.is
    c.number_of-3.ensures.is
    (held 4 _ _ _ (omega arith) c.signed_of.ensures)
    (held 4 _ _ _ (omega arith) c.signed_of-2.ensures)
    c.number_of-4.ensures.is
    (held 4 _ _ _ (omega arith) c.signed_of-3.ensures)
    (held 4 _ _ _ (omega arith) c.signed_of-4.ensures)
    c.number_of-5.ensures.is
    c.number_of-6.ensures.is
