-- `exports::yard_load_finish` meets its contract.
use borrow.Author.Rules.{rules}
use Rattle.exports.proofs.yard_load_finish.Goals as goal

pub returns : goal.returns
returns c = simp (c.judged.ensures, c.finish.ensures, c.state_in.ensures)
