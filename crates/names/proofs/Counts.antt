-- The laws of counting. `lead` is the one count m with no zero among the first m numbers and, where m is not all of them, a zero next.
-- The numbers from one up to another are those that lie there; a loop tests them one by one.
use Prim.Native.Nat.{ℕ, zero, suc, ◌+◌, ◌-◌, ◌≤◌, ◌<◌}
use mathlib.Core.Path.{◌≡◌, refl, subst, subst⁻¹}
use mathlib.Core.Bool.{Bool, true, false, cond, ◌&&◌}
use mathlib.Core.List.{◌∷◌, Memᴰ}
use mathlib.Core.Logic.{⊎_elim, ◌↔◌}
use lib.Dec.{eqb}
use native.Mathlib.Omega.{arith}
use borrow.Author.Tests.{eq-eqb, ne_eqb}
use Rattle.verdict.proofs.Walk.{starts_step, starts_stop}
use Rattle.verdict.proofs.Checks.{all_step, all-stop}
use Rattle.verdict.specs.Facts.{Claim, every, test}
use Rattle.names.specs.Names.{numbers, lead, Counted}

-- ---- how many stand before the first zero

pub lead_most : (g : ℕ → ℕ) (n : ℕ) → lead g n ≤ n
unfolding lead
lead_most g zero = omega arith
lead_most g (suc n) = go (eqb (g 0) 0) (lead_most (λ k. g (suc k)) n)
  where
    go : (t : Bool) → lead (λ k. g (suc k)) n ≤ n → cond t 0 (1 + lead (λ k. g (suc k)) n) ≤ suc n
    go true h = omega arith
    go false h = omega arith

-- m of the n numbers are not 0, and where that is not all of them, the next one is
pub lead_is : (g : ℕ → ℕ) (n m : ℕ) → m ≤ n → ((k : ℕ) → k < m → g k ≡ 0 → ⊥) → (m < n → g m ≡ 0) → m ≡ lead g n
unfolding lead
lead_is g zero m h before stop = omega arith
lead_is g (suc n) zero h before stop = rw (eq-eqb (g 0) 0 (stop (omega arith)))
lead_is g (suc n) (suc m) h before stop =
    let e = lead_is (λ k. g (suc k)) n m (omega arith) (λ k l. before (suc k) (omega arith)) (λ l. stop (omega arith)) in
    rw (ne_eqb (g 0) 0 (before 0 (omega arith))) (omega arith)

pub counted : (g : ℕ → ℕ) (n m : ℕ) → m ≤ n → ((k : ℕ) → k < m → g k ≡ 0 → ⊥) → (m < n → g m ≡ 0) → Counted (lead g n) n m
counted g n m h before stop = record { is = lead_is g n m h before stop; most = h }

-- ---- the numbers from one up to another

numbers_step : (from until : ℕ) → from < until → numbers from until ≡ from ∷ numbers (from + 1) until
numbers_step from until h = starts_step (λ k. 1) until (λ k. omega arith) from h

none_past : (from until k : ℕ) → until ≤ from → Memᴰ k (numbers from until) → ⊥
none_past from until k h m = mathlib.Core.List.Memᴰ.not-nil (subst (Memᴰ k) (starts_stop (λ i. 1) until from h) m)

-- there are n of them
numbers_within : (n from until k : ℕ) → until - from ≡ n → Memᴰ k (numbers from until) → (from ≤ k) × (k < until)
numbers_within zero from until k h m = absurd (none_past from until k (omega arith) m)
numbers_within (suc n) from until k h m =
    ⊎_elim
    (λ (e : k ≡ from). (omega arith, omega arith))
    (λ (r : Memᴰ k (numbers (from + 1) until)). let w = numbers_within n (from + 1) until k (omega arith) r in (omega arith, omega arith))
    (mathlib.Core.List.Memᴰ.cases_cons (subst (Memᴰ k) (numbers_step from until (omega arith)) m))

-- k is the n-th after the first
numbers_there : (n from until k : ℕ) → k ≡ from + n → k < until → Memᴰ k (numbers from until)
numbers_there zero from until k e h = subst⁻¹ (Memᴰ k) (numbers_step from until (omega arith)) (mathlib.Core.List.Memᴰ.head (omega arith))
numbers_there (suc n) from until k e h = subst⁻¹ (Memᴰ k) (numbers_step from until (omega arith)) (mathlib.Core.List.Memᴰ.tail (numbers_there n (from + 1) until k (omega arith) h))

pub each_number : (P : ℕ → Type 0) (from until : ℕ) → ((k : ℕ) → Memᴰ k (numbers from until) → P k) ↔ ((k : ℕ) → from ≤ k → k < until → P k)
each_number P from until = (
  λ h k l g. h k (numbers_there (k - from) from until k (omega arith) g),
  λ h k m. let w = numbers_within (until - from) from until k refl m in h k w.0 w.1,
)

-- One turn of a loop that tests each number, and the end.
module _ (c : ℕ → Claim) (until : ℕ) where
  pub each_step : (b d : Bool) (k : ℕ) → k < until → d ≡ (b && test (c k)) → (d && test (every (numbers (k + 1) until) c)) ≡ (b && test (every (numbers k until) c))
  each_step b d k h e = all_step (λ i. 1) until (λ i. test (c i)) (λ i. omega arith) b d k (k + 1) h e refl

  pub each_stop : (b : Bool) (k : ℕ) → until ≤ k → (b && test (every (numbers k until) c)) ≡ b
  each_stop b k h = all-stop (λ i. 1) until (λ i. test (c i)) b k h
