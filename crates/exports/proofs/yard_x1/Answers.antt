-- `exports::yard_x1` meets its contract.
use borrow.Author.Rules.{rules}
use Rattle.exports.proofs.yard_x1.Goals as goal

pub returns : goal.returns
returns c = simp (c.judged.ensures, c.verdict_of.ensures)
