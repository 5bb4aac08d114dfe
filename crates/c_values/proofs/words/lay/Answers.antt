-- `c_values::words::lay` meets its contract. The loop's invariant: the values from i on, put at their place, give what all of them give from the start.
use Prim.Native.Nat.{◌-◌, ◌*◌, ◌≤◌}
use mathlib.Core.Path.{◌≡◌, refl, ◌∙◌}
use native.Mathlib.Omega.{arith}
use lib.ListN.{length, drop}
use lib.Seq.{sets}
use Rattle.c_values.specs.Words.{value_size, laid_bytes}
use Rattle.c_values.proofs.Laid.{lay_length, lay_more, lay_stop}
use borrow.Author.Rules.{rules}
use Rattle.c_values.proofs.words.lay.Goals as goal

pub loop-i-init : goal.loop-i-init
loop-i-init c = (refl, refl)

pub loop-i-preserved : goal.loop-i-preserved
loop-i-preserved c = let words = c.args.words.now in
    let e = c.put_word.ensures in (
      lay_length words _ _ c.loop-i.i e ∙ c.loop-i.invariant.0,
      lay_more words _ _ c.loop-i.i (omega arith) e ∙ c.loop-i.invariant.1,
    )

pub shape_of-out : goal.shape_of-out
shape_of-out c = c.loop-i.invariant.0

pub returns : goal.returns
returns c = lay_stop c.args.words.now _ _ _ (omega arith) c.loop-i.invariant.1
