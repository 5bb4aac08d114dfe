-- `c_values::words::show` meets its contract: a short output is kept and refused, any other has the bytes of the values in front.
use Prim.Native.Nat.{◌*◌, ◌≤◌, ◌<◌}
use native.Mathlib.Omega.{arith}
use lib.ListN.{length}
use Rattle.c_values.specs.Words.{value_size}
use Rattle.c_values.proofs.Ways.{short_shown, short_leaves, room_shown, room_leaves}
use borrow.Author.Rules.{rules}
use Rattle.c_values.proofs.words.show.Goals as goal

pub returns-then-out-words : goal.returns-then-out-words
returns-then-out-words c = let a = c.args in
    let h : length a.out.now < value_size * length a.words.now = omega (arith, c.if-out-words.true) in
    record { value = short_shown a.words.now a.out.now h _ c.number.ensures _ c.answer.ensures; out_after = short_leaves a.words.now a.out.now h }

pub returns : goal.returns
returns c = let a = c.args in
    let h : value_size * length a.words.now ≤ length a.out.now = omega (arith, c.if-out-words.false) in
    record { value = room_shown a.words.now a.out.now h _ c.answer-2.ensures; out_after = room_leaves a.words.now a.out.now h _ c.lay.ensures }
