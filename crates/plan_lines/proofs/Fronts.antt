-- What a text begins with, byte by byte.
use Prim.Native.Nat.{ℕ, suc, ◌≤◌, ◌<◌}
use native.Mathlib.Numerals.{add-one}
use native.Mathlib.Omega.{arith}
use mathlib.Core.Path.{◌≡◌, refl, sym, ap, ◌∙◌}
use mathlib.Core.Bool.{Bool, true, false, cond}
use mathlib.Core.List.{List, [], ◌∷◌}
use lib.ListN.{length, take}
use Rattle.std.specs.List.{AllWithin, HoldsAt}
use Rattle.std.specs.Prelude.{Option}
use Rattle.std.specs.Option.{MatchOption, unwrap_or}
use Rattle.std.proofs.lemmas.Iterator.{index_from_first}
use Rattle.plan_lines.specs.Lines.{front}

-- ---- what a text begins with

-- a byte for which the test holds
pub front_yes : (t : ℕ → Bool) (c : ℕ) (s : List ℕ) → t c ≡ true → front t (c ∷ s) ≡ c ∷ front t s
unfolding front
front_yes t c s e = rw e

pub front_no : (t : ℕ → Bool) (c : ℕ) (s : List ℕ) → t c ≡ false → front t (c ∷ s) ≡ []
unfolding front
front_no t c s e = rw e

pub no_front : (t : ℕ → Bool) → front t [] ≡ []
unfolding front
no_front t = refl

pub front_taken : (t : ℕ → Bool) (s : List ℕ) → take (length (front t s)) s ≡ front t s
unfolding front
front_taken t [] = refl
front_taken t (c ∷ s) = by_test (t c) (front_taken t s)
  where
    by_test : (b : Bool) → take (length (front t s)) s ≡ front t s → take (length (cond b (c ∷ front t s) [])) (c ∷ s) ≡ cond b (c ∷ front t s) []
    by_test true h = ap (λ (r : List ℕ). c ∷ r) h
    by_test false h = refl

pub front_most : (t : ℕ → Bool) (s : List ℕ) → length (front t s) ≤ length s
unfolding front
front_most t [] = omega arith
front_most t (c ∷ s) = by_test (t c) (front_most t s)
  where
    by_test : (b : Bool) → length (front t s) ≤ length s → length (cond b (c ∷ front t s) []) ≤ suc (length s)
    by_test true h = omega arith
    by_test false h = omega arith

-- the first byte for which the test does not hold stands after them
pub front_position : (t : ℕ → Bool) (s : List ℕ) (r : Option ℕ)
    → MatchOption r (AllWithin (λ c. t c ≡ true) s 0 (length s)) (λ i. (i < length s) × HoldsAt (λ c. t c ≡ false) s i × AllWithin (λ c. t c ≡ true) s 0 i)
    → length (front t s) ≡ unwrap_or r (length s)
front_position t =
    index_from_first
    (λ s. length (front t s))
    (λ c. t c ≡ false)
    (λ c. t c ≡ true)
    (ap length (no_front t))
    (λ c s e. ap length (front_no t c s e))
    (λ c s e. ap length (front_yes t c s e) ∙ sym (add-one (length (front t s))))
