-- The ways out of laying values in an output: it is too short, or it has room.
use Prim.Native.Nat.{ℕ, ◌*◌, ◌≤◌, ◌<◌}
use mathlib.Core.Path.{◌≡◌, refl, sym, ap, ◌∙◌}
use mathlib.Core.List.{List}
use lib.ListN.{length}
use lib.Seq.{sets}
use borrow.Author.Tests.{lt-ltb, le-ltb}
use Rattle.verdict.specs.declared.Reason.TheVariants.{Room}
use Rattle.verdict.specs.Reasons.{number_of}
use Rattle.c_values.specs.Words.{answer_word, value_size, laid_bytes}
use Rattle.c_values.specs.Shown.{words_shown, words_leave}
use Rattle.c_values.proofs.Laid.{laid}

module _ (words out : List ℕ) where
  module _ (h : length out < value_size * length words) where
    pub short_shown : (n : ℕ) → n ≡ number_of Room → (r : ℕ) → r ≡ answer_word n 0 0 → r ≡ words_shown words out
    unfolding words_shown
    short_shown n k r e = e ∙ ap (λ (m : ℕ). answer_word m 0 0) k ∙ sym (rw (lt-ltb _ _ h) refl)

    pub short_leaves : out ≡ words_leave words out
    unfolding words_leave
    short_leaves = sym (rw (lt-ltb _ _ h) refl)

  module _ (h : value_size * length words ≤ length out) where
    pub room_shown : (r : ℕ) → r ≡ answer_word 0 0 0 → r ≡ words_shown words out
    unfolding words_shown
    room_shown r e = e ∙ sym (rw (le-ltb _ _ h) refl)

    pub room_leaves : (out' : List ℕ) → out' ≡ sets out 0 (laid_bytes words) → out' ≡ words_leave words out
    unfolding words_leave
    room_leaves out' e = e ∙ laid words out h ∙ sym (rw (le-ltb _ _ h) refl)
