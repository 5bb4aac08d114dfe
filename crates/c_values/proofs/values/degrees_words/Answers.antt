-- `c_values::values::degrees_words` meets its contract.
use Rattle.c_values.proofs.Numbers.{value_read}
use borrow.Author.Rules.{rules}
use Rattle.c_values.proofs.values.degrees_words.Goals as goal

pub returns : goal.returns
returns c = let v = c.args.s.coordinate in
    simp (
      value_read v.longitude c.struct_told-2-1.given.1.0.1 _ c.signed_word-2.ensures,
      value_read v.latitude c.struct_told-1.given.0.1 _ c.signed_word.ensures,
      c.bits_words-longitude.ensures,
      c.bits_of-2.ensures,
      c.bits_words-latitude.ensures,
      c.bits_of.ensures,
    )
