-- Texts word by word.
use Prim.Native.Nat.{ℕ, zero, suc, ◌≤◌, ◌<◌}
use native.Mathlib.Omega.{arith}
use mathlib.Core.Path.{◌≡◌, refl, ap, ◌∙◌}
use mathlib.Core.Bool.{Bool, true, false, not}
use mathlib.Core.List.{List, [], ◌∷◌}
use lib.ListN.{length, take, drop, drop_of_length-le}
use Rattle.std.specs.Prelude.{Option, None, Some}
use Rattle.std.specs.List.{AllWithin, HoldsAt}
use Rattle.std.specs.Option.{MatchOption}
use Rattle.plan_lines.specs.Lines.{is_blank, is_part, blanks, word, words_after, words_in}
use Rattle.plan_lines.proofs.Fronts.{no_front, front_yes, front_no, front_taken, front_position}

-- bytes passed over
after_dropped : (n : ℕ) (s : List ℕ) → words_after n s ≡ words_in (drop n s)
unfolding words_after
after_dropped zero [] = refl
after_dropped zero (c ∷ s) = refl
after_dropped (suc n) [] = refl
after_dropped (suc n) (c ∷ s) = after_dropped n s

-- a text that begins with a blank, or with none
pub at_blank : (c : ℕ) (s : List ℕ) → is_blank c ≡ true → words_in (c ∷ s) ≡ words_in s
unfolding words_after
at_blank c s e = rw e

at_part : (c : ℕ) (s : List ℕ) → is_blank c ≡ false → words_in (c ∷ s) ≡ word (c ∷ s) ∷ words_in (drop (length (word (c ∷ s))) (c ∷ s))
unfolding words_after
at_part c s e = rw (front_yes is_part c s (ap not e), e, after_dropped (length (word s)) s)

-- one that begins with a word
pub word_some : (s : List ℕ) → (length (word s) ≡ 0 → ⊥) → words_in s ≡ word s ∷ words_in (drop (length (word s)) s)
word_some [] n = absurd (n (ap length (no_front is_part)))
word_some (c ∷ s) n = by_test (is_blank c) refl
  where
    by_test : (b : Bool) → is_blank c ≡ b → words_in (c ∷ s) ≡ word (c ∷ s) ∷ words_in (drop (length (word (c ∷ s))) (c ∷ s))
    by_test true i = absurd (n (ap length (front_no is_part c s (ap not i))))
    by_test false i = at_part c s i

-- blanks in front
words_blanks : (s : List ℕ) → words_in s ≡ words_in (drop (length (blanks s)) s)
words_blanks [] = rw (no_front is_blank)
words_blanks (c ∷ s) = by_test (words_blanks s) (is_blank c) refl
  where
    by_test : words_in s ≡ words_in (drop (length (blanks s)) s) → (b : Bool) → is_blank c ≡ b → words_in (c ∷ s) ≡ words_in (drop (length (blanks (c ∷ s))) (c ∷ s))
    by_test h true i = rw (front_yes is_blank c s i) (at_blank c s i ∙ h)
    by_test h false i = rw (front_no is_blank c s i)

-- and a word after them, unless the text ends there
after_blanks : (s : List ℕ) → length (blanks s) < length s → 0 < length (word (drop (length (blanks s)) s))
after_blanks [] h = absurd (omega arith)
after_blanks (c ∷ s) h = by_test (after_blanks s) (is_blank c) refl
  where
    by_test : (length (blanks s) < length s → 0 < length (word (drop (length (blanks s)) s))) → (b : Bool) → is_blank c ≡ b → 0 < length (word (drop (length (blanks (c ∷ s))) (c ∷ s)))
    by_test k true i = let n = ap length (front_yes is_blank c s i) in rw n (k (omega arith))
    by_test k false i = rw (front_no is_blank c s i) (let n = ap length (front_yes is_part c s (ap not i)) in omega arith)

-- a text of blanks alone has no words
pub no_words : (s : List ℕ) → length s ≤ length (blanks s) → words_in s ≡ []
unfolding words_after
no_words s h = words_blanks s ∙ ap words_in (drop_of_length-le s h)

-- ---- the first byte that is no blank

module _ (s : List ℕ) (r : Option ℕ)
    (first : MatchOption r (AllWithin (λ c. is_blank c ≡ true) s 0 (length s)) (λ i. (i < length s) × HoldsAt (λ c. is_blank c ≡ false) s i × AllWithin (λ c. is_blank c ≡ true) s 0 i)) where
  pub first_none : r ≡ None → words_in s ≡ []
  first_none e = let p = front_position is_blank s r first in no_words s (omega (arith, rw e at p))

  pub first_some : (n : ℕ) → r ≡ Some n → (length (blanks s) ≡ n) × (n < length s)
  first_some n e = let p = front_position is_blank s r first in (rw e at p, (rw e at first).0)

-- ---- the next word of a text: n blanks are passed over, and it has so many bytes

module _ (s : List ℕ) (n bytes : ℕ) (first : (length (blanks s) ≡ n) × (n < length s)) (is : bytes ≡ length (word (drop n s))) where
  pub next_bytes : 0 < bytes
  next_bytes = rw (is, ← first.0) (after_blanks s (omega (arith, first.0, first.1)))

  pub next_word : words_in s ≡ take bytes (drop n s) ∷ words_in (drop bytes (drop n s))
  next_word =
      let some = word_some (drop n s) (λ e. omega (arith, next_bytes)) in
      words_blanks s ∙ rw (first.0, some, is, front_taken is_part (drop n s))
