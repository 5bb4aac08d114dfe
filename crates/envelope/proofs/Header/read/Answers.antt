-- `envelope::Header::read` meets its contract.
use borrow.Author.Rules.{rules}
use Rattle.envelope.specs.Header.{header_in}
use Rattle.envelope.proofs.Header.read.Goals as goal

pub returns : goal.returns
unfolding header_in
returns c = simp (c.number_of-2.ensures.is, c.number_of.ensures.is, c.structure_of.ensures)
