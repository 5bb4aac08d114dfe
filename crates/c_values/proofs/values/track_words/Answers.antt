-- `c_values::values::track_words` meets its contract.
use Rattle.c_values.proofs.Numbers.{value_read}
use borrow.Author.Rules.{rules}
use Rattle.c_values.proofs.values.track_words.Goals as goal

pub returns : goal.returns
returns c = let v = c.args.t in
    simp (
      c.word-7.ensures,
      c.points.ensures,
      c.word-6.ensures,
      c.word-5.ensures,
      value_read v.end_longitude c.struct_told-4-1.given.1.1.1.1.1.1.1.0.1 _ c.signed_word-4.ensures,
      value_read v.end_latitude c.struct_told-3-1.given.1.1.1.1.1.1.0.1 _ c.signed_word-3.ensures,
      c.word-4.ensures,
      value_read v.start_longitude c.struct_told-2-1.given.1.1.1.1.0.1 _ c.signed_word-2.ensures,
      value_read v.start_latitude c.struct_told-1.given.1.1.1.0.1 _ c.signed_word.ensures,
      c.word-3.ensures,
      c.word-2.ensures,
      c.word.ensures,
    )
