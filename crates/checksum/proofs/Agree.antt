-- Two functions agree at each number below n, by one test that the prover computes, one number after the other.
use mathlib.Core.Path.{◌≡◌, sym, subst}
use mathlib.Core.Logic.{⊎_elim}
use mathlib.Core.Bool.{Bool, true, false}
use Prim.Native.Nat.{ℕ, zero, suc, ◌<◌}
use native.Mathlib.Nat.{le_of_suc-le-suc, not-suc-le-zero, eq-or-lt_of_le}
use lib.Dec.{T, eqb, eqb→eq}

abbrev pub both : Bool → Bool → Bool
both true b = b
both false b = false

pub both_left : (a b : Bool) → T (both a b) → T a
both_left true b t = tt
both_left false b t = t

pub both_right : (a b : Bool) → T (both a b) → T b
both_right true b t = t
both_right false b t = absurd t

module _ (f g : ℕ → ℕ) where
  abbrev pub agree : ℕ → Bool
  agree zero = true
  agree (suc n) = both (eqb (f n) (g n)) (agree n)

  pub agreed : (n : ℕ) → T (agree n) → (k : ℕ) → k < n → f k ≡ g k
  agreed zero t k h = absurd (not-suc-le-zero h)
  agreed (suc n) t k h =
      ⊎_elim
      (λ e. subst (λ (m : ℕ). f m ≡ g m) (sym e) (eqb→eq (f n) (g n) (both_left (eqb (f n) (g n)) (agree n) t)))
      (λ l. agreed n (both_right (eqb (f n) (g n)) (agree n) t) k l)
      (eq-or-lt_of_le (le_of_suc-le-suc h))
