-- `c_values::values::turnout_words` meets its contract.
use Rattle.c_values.specs.Words.{word_of}
use borrow.Author.Rules.{rules}
use Rattle.c_values.proofs.values.turnout_words.Goals as goal

pub returns : goal.returns
unfolding word_of
returns c = simp (c.word-12.ensures, c.word-11.ensures, c.word-10.ensures, c.word-9.ensures, c.word-8.ensures, c.word-7.ensures, c.word-6.ensures, c.word-5.ensures, c.word-4.ensures, c.word-3.ensures, c.number.ensures, c.word-2.ensures, c.word.ensures)
