-- `plan_question::counted` meets its contract.
use Prim.Native.Nat.{ℕ}
use mathlib.Core.Path.{◌≡◌, sym, ap, ◌∙◌}
use mathlib.Core.List.{List, ◌++◌}
use native.Mathlib.Omega.{arith}
use lib.ListN.{length, take, drop}
use lib.Seq.{length-take-le}
use Rattle.plan_question.specs.inner.Words.{words_in}
use Rattle.plan_question.proofs.Ways.{counts_are}
use Rattle.plan_question.proofs.counted.Goals as goal

pub slice_bounds-listed-end-2 : goal.slice_bounds-listed-end-2
slice_bounds-listed-end-2 c = sym (length-take-le _ _ (omega arith))

pub returns : goal.returns
returns c = let a = c.args in
    let n = a.t.words in
    let s : length (take n a.list.now) ≡ n = length-take-le _ _ (omega arith) in
    let e = c.read_words.ensures ∙ ap (λ (m : ℕ). words_in m a.bytes.now) s in
    record { value = counts_are _ _ _ _ a.t _ _ e c.apart.ensures c.apart-2.ensures; list_after = ap (λ (ws : List ℕ). ws ++ drop n a.list.now) e }
