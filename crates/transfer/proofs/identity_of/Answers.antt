-- `transfer::identity_of` meets its contract: each number is read at its place.
use Rattle.envelope.specs.Header.{header_in}
use Rattle.transfer.specs.Calls.{identity_of}
use Rattle.transfer.proofs.identity_of.Goals as goal

pub returns : goal.returns
unfolding identity_of header_in
returns c = simp (c.u32_at.ensures.is, c.end_of.ensures, c.number_of.ensures.is, c.read-header.ensures)
