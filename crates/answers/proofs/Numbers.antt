-- The number of an answer of any kind, which `shape` makes the one shape: `asked` is the answer that is due, `got` the one that a function gave, and
-- `way` the case that it was found to be.
use Prim.Native.Nat.{ℕ}
use mathlib.Core.Path.{◌≡◌, sym, ap, ◌∙◌}
use Rattle.verdict.specs.Answers.{Answer, answer_number}

pub number_is : {A : Type 0} (shape : A → Answer) {asked got way : A} → got ≡ asked → got ≡ way → {r : ℕ} → r ≡ answer_number (shape way) → r ≡ answer_number (shape asked)
number_is {A} shape p e q = q ∙ ap (λ (a : A). answer_number (shape a)) (sym e ∙ p)
