-- `c_values::load::state_words` meets its contract.
use borrow.Author.Rules.{rules}
use Rattle.c_values.proofs.load.state_words.Goals as goal

pub returns : goal.returns
returns c = simp (
  c.word-7.ensures,
  c.word-6.ensures,
  c.word-5.ensures,
  c.word-4.ensures,
  c.word-3.ensures,
  c.word-2.ensures,
  c.word.ensures,
)
