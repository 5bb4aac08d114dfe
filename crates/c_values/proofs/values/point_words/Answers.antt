-- `c_values::values::point_words` meets its contract.
use Rattle.c_values.proofs.Numbers.{value_read, height_two}
use borrow.Author.Rules.{rules}
use Rattle.c_values.proofs.values.point_words.Goals as goal

pub returns : goal.returns
returns c = let v = c.args.p in
    let words = c.height_words-words in
    simp (
      height_two v.height words.result words.ensures,
      c.word-2.ensures,
      value_read v.heading c.struct_told-3-1.given.1.1.1.0.1 _ c.signed_word-3.ensures,
      value_read v.longitude_increment c.struct_told-2-1.given.1.1.0.1 _ c.signed_word-2.ensures,
      value_read v.latitude_increment c.struct_told-1.given.1.0.1 _ c.signed_word.ensures,
      c.word.ensures,
    )
