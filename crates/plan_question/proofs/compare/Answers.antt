-- `plan_question::compare` meets its contract.
use Prim.Native.Nat.{ℕ, ◌*◌, ◌/◌, ◌≤◌, min}
use mathlib.Core.Path.{◌≡◌, sym}
use native.Mathlib.Omega.{arith}
use lib.Seq.{length-take-le}
use Rattle.route_walks.specs.Lent.{word_size}
use Rattle.plan_question.specs.Compared.{most_room}
use Rattle.plan_question.proofs.Ways.{answer_with, words_with}
use Rattle.plan_question.proofs.compare.Goals as goal

-- the room in the n bytes of k words
halved : (n k m : ℕ) → word_size * k ≡ n → k ≡ m → n / word_size ≡ m
halved n k m e same = omega arith

inside : (n k m : ℕ) → word_size * k ≡ n → k ≡ min m most_room → n / word_size ≤ m
inside n k m e least = omega arith

pub slice_bounds-answered-end : goal.slice_bounds-answered-end
slice_bounds-answered-end c = sym (length-take-le _ _ (omega arith))

pub answered-requires : goal.answered-requires
answered-requires c = inside _ _ _ (sym (length-take-le _ _ (omega arith))) c.min-lent.ensures

pub returns : goal.returns
returns c = let k = halved _ _ _ (sym (length-take-le _ _ (omega arith))) c.min-lent.ensures in
    record { value = answer_with _ _ _ _ _ _ k _ _ c.answered.ensures.value; list_after = words_with _ _ _ _ _ _ k _ _ c.answered.ensures.list_after }
