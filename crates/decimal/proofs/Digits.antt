-- Digits one by one: what the rest of a text makes of the number so far.
use Prim.Native.Nat.{ℕ, suc, ◌+◌, ◌*◌, ◌-◌, min, ◌≤◌, ◌<◌}
use native.Mathlib.Numerals.{add-one}
use native.Mathlib.Omega.{arith}
use mathlib.Core.Path.{◌≡◌, refl, sym, ◌∙◌}
use mathlib.Core.Bool.{Bool, true, false, cond, not, ◌&&◌}
use mathlib.Core.List.{List, [], ◌∷◌}
use lib.Dec.{leb, ltb}
use lib.ListN.{length, get_or, drop}
use lib.Seq.{drop-cons, drop-length}
use borrow.Author.Tests.{leb-true, leb-false, lt-leb, lt-ltb, not-true, not-false}
use Rattle.verdict.proofs.Orders.{and-true}
use Rattle.decimal.specs.Decimal.{is_digit, all_digits, value_after, is_number, number_in}

-- the number that the digits of n and then those of a text are, or `none` where that is less or the text has no digits alone
unfoldable pub number_from : ℕ → List ℕ → ℕ → ℕ
number_from n s none = cond (all_digits s) (min (value_after n s) none) none

-- digits more make no number less
value_grows : (n : ℕ) (s : List ℕ) → n ≤ value_after n s
unfolding value_after
value_grows n [] = omega arith
value_grows n (c ∷ s) = omega (arith, value_grows (10 * n + (c - 0x30)) s)

-- from a number that is no less than `none` on, all of them are `none`
value_capped : (m none : ℕ) (s : List ℕ) → min (value_after (min m none) s) none ≡ min (value_after m s) none
value_capped m none s = by_test (leb m none) refl
  where
    by_test : (t : Bool) → leb m none ≡ t → min (value_after (min m none) s) none ≡ min (value_after m s) none
    by_test true e = let l = leb-true m none e in let same : min m none ≡ m = omega arith in rw same
    by_test false e =
        let l = leb-false m none e in
        omega (arith, value_grows m s, value_grows (min m none) s)

-- one digit more
from_digit : (n none c : ℕ) (s : List ℕ) → is_digit c ≡ true → number_from n (c ∷ s) none ≡ number_from (min (10 * n + (c - 0x30)) none) s none
unfolding number_from all_digits value_after
from_digit n none c s d = rw (d, value_capped (10 * n + (c - 0x30)) none s)

from_other : (n none c : ℕ) (s : List ℕ) → is_digit c ≡ false → number_from n (c ∷ s) none ≡ none
unfolding number_from all_digits
from_other n none c s d = rw d

-- ---- the loop of `number_in`

-- before it: a text of one byte or more
pub from_start : (s : List ℕ) (most : ℕ) → 0 < length s → number_from 0 s (most + 1) ≡ number_in s most
unfolding number_from number_in is_number
from_start s most o = rw (add-one most, lt-ltb 0 (length s) o) (by_tests (all_digits s) (leb (value_after 0 s) most) refl)
  where
    by_tests : (all few : Bool) → leb (value_after 0 s) most ≡ few → cond all (min (value_after 0 s) (suc most)) (suc most) ≡ cond (all && few) (value_after 0 s) (suc most)
    by_tests true true e = omega (arith, leb-true (value_after 0 s) most e)
    by_tests true false e = omega (arith, leb-false (value_after 0 s) most e)
    by_tests false few e = refl

-- no text is no number
pub no_text : (s : List ℕ) (most : ℕ) → length s ≡ 0 → most + 1 ≡ number_in s most
unfolding number_in is_number
no_text [] most e = add-one most
no_text (c ∷ s) most e = absurd (omega arith)

pub digit_range : (c : ℕ) → is_digit c ≡ true → (0x30 ≤ c) × (c ≤ 0x39)
digit_range c d = let both = and-true (leb 0x30 c) (leb c 0x39) d in (leb-true 0x30 c both.0, leb-true c 0x39 both.1)

-- the byte at k, tested by the code
module _ (s : List ℕ) (k : ℕ) (b : Bool) (told : b ≡ is_digit (get_or s k 0)) where
  pub digit_told : not b ≡ false → (0x30 ≤ get_or s k 0) × (get_or s k 0 ≤ 0x39)
  digit_told d = digit_range (get_or s k 0) (sym told ∙ not-false b d)

  -- one turn of the loop
  pub from_more : (n n' none : ℕ) → k < length s → not b ≡ false → n' ≡ min (10 * n + (get_or s k 0 - 0x30)) none → number_from n' (drop (k + 1) s) none ≡ number_from n (drop k s) none
  from_more n n' none h d e =
      sym (rw (e, drop-cons s k 0 h, add-one k) (from_digit n none (get_or s k 0) (drop (suc k) s) (sym told ∙ not-false b d)))

  -- a byte that is no digit ends it
  pub from_stop : (n none : ℕ) → k < length s → not b ≡ true → none ≡ number_from n (drop k s) none
  from_stop n none h d = sym (rw (drop-cons s k 0 h) (from_other n none (get_or s k 0) (drop (suc k) s) (sym told ∙ not-true b d)))

-- after the last digit
pub from_end : (s : List ℕ) (n none k : ℕ) → n ≤ none → k ≡ length s → n ≡ number_from n (drop k s) none
unfolding number_from all_digits value_after
from_end s n none k h e = rw (e, drop-length s) (omega arith)

-- ---- for callers: a text is a number where what is read is no more than the most

pub number_tested : (s : List ℕ) (most : ℕ) → leb (number_in s most) most ≡ is_number s most
unfolding number_in is_number
number_tested s most = by_tests (ltb 0 (length s)) (all_digits s) (leb (value_after 0 s) most) refl
  where
    by_tests : (a b few : Bool) → leb (value_after 0 s) most ≡ few → leb (cond (a && (b && few)) (value_after 0 s) (suc most)) most ≡ (a && (b && few))
    by_tests true true true e = e
    by_tests true true false e = lt-leb (suc most) most (omega arith)
    by_tests true false few e = lt-leb (suc most) most (omega arith)
    by_tests false b few e = lt-leb (suc most) most (omega arith)

pub number_most : (s : List ℕ) (most : ℕ) → is_number s most ≡ true → number_in s most ≤ most
number_most s most e = leb-true (number_in s most) most (number_tested s most ∙ e)
