-- `c_values::words::put_word` meets its contract: the four bytes are copied to the place.
use Prim.Native.Nat.{◌+◌, ◌-◌}
use mathlib.Core.Path.{◌≡◌, refl}
use native.Mathlib.Omega.{arith}
use lib.ListN.{length}
use Rattle.c_values.specs.Words.{word_bytes}
use Rattle.c_values.proofs.Laid.{copied}
use borrow.Author.Rules.{rules}
use Rattle.c_values.proofs.words.put_word.Goals as goal

pub returns : goal.returns
unfolding word_bytes
returns c = let a = c.args in
    let k : (a.at + 4) - a.at ≡ 4 = omega arith in
    rw (k, c.copy_from_slice.ensures.after, c.to_le_bytes.ensures) (copied a.out.now (word_bytes a.word) a.at 4 refl (omega (arith, c.requires)))
