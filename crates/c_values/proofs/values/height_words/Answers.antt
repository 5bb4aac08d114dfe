-- `c_values::values::height_words` meets its contract.
use Rattle.c_values.specs.Words.{word_of}
use Rattle.c_values.proofs.Numbers.{value_read}
use borrow.Author.Rules.{rules}
use Rattle.c_values.proofs.values.height_words.Goals as goal

pub returns-in-Some : goal.returns-in-Some
unfolding word_of
returns-in-Some c = simp (value_read c.in-Some.z c.in-Some.known_told-1-own.given.0.1 _ c.signed_word.ensures, c.in-Some.is)

pub returns-in-None : goal.returns-in-None
unfolding word_of
returns-in-None c = simp c.in-None.is
