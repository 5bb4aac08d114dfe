-- Small laws that the kit lacks: two numbers are in one order or the other; 'x is 0, or ..' is 'x is not 0, so ..'; what tests joined by
-- `&&` and `||` say of each of them.
use Prim.Native.Nat.{ℕ, ◌≤◌, ◌<◌}
use mathlib.Core.Path.{◌≡◌, refl, sym}
use mathlib.Core.Bool.{Bool, true, false, ◌&&◌, ◌||◌, true≢false}
use mathlib.Core.Logic.{◌⊎◌, inl, inr, ⊎_elim, ◌↔◌}
use lib.Dec.{leb}
use native.Mathlib.Decide.{ℕ_discrete}
use borrow.Author.Tests.{leb-true, leb-false}

pub le-or-lt : (m n : ℕ) → (m ≤ n) ⊎ (n < m)
le-or-lt m n = by_test (leb m n) refl
  where
    by_test : (t : Bool) → leb m n ≡ t → (m ≤ n) ⊎ (n < m)
    by_test true e = inl (leb-true m n e)
    by_test false e = inr (leb-false m n e)

pub unless : (x : ℕ) (A : Type 0) → ((x ≡ 0) ⊎ A) ↔ ((x ≡ 0 → ⊥) → A)
unless x A = (λ h n. ⊎_elim (λ (e : x ≡ 0). absurd (n e)) (λ (a : A). a) h, λ h. by_case h (ℕ_discrete x 0))
  where
    by_case : ((x ≡ 0 → ⊥) → A) → Dec (x ≡ 0) → (x ≡ 0) ⊎ A
    by_case h (yes e) = inl e
    by_case h (no n) = inr (h n)

pub and-true : (a b : Bool) → (a && b) ≡ true → (a ≡ true) × (b ≡ true)
and-true true true e = (refl, refl)
and-true true false e = absurd (true≢false (sym e))
and-true false b e = absurd (true≢false (sym e))

pub neither : (a b : Bool) → (a || b) ≡ false → (a ≡ false) × (b ≡ false)
neither true b e = absurd (true≢false e)
neither false b e = (refl, e)
