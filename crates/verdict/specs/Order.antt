-- The fixed order of checks (01, 'Verdicts and their order'), as statements: which number is answered, and at which place. A check is a
-- row of 01's table. Nothing here speaks of facts, nor of how a check is carried out.
use Rattle.std.specs.Prelude.{ℕ, ◌≤◌, ◌<◌, ◌≡◌, Bool, cond, not, ◌&&◌, List, [], ◌∷◌, ◌⊎◌, eqb}
use Rattle.verdict.specs.Verdicts.{Verdict}
use Rattle.std.specs.Prelude.{Ok, Err}
use Rattle.verdict.specs.Reasons.{number_in, place_in}

-- A row of 01's table: the number, what holds of what passes the check, and what a place is that a refusal reports.
-- 01: Order.1
pub data Check : Type 1 where
  check : ℕ → Type 0 → (ℕ → Type 0) → Check

-- n is answered: every check before the one with this number is passed and that one is not; 0 where all are passed
-- 01: Order.1
abbrev pub Numbered : List Check → ℕ → Type 0
Numbered [] n = n ≡ 0
Numbered (check k A At ∷ cs) n = cond (eqb n k) (A → ⊥) (A × Numbered cs n)

-- n is answered, at the place p
-- 01: No.0, Order.1, Order.2
abbrev pub Answered : List Check → ℕ → ℕ → Type 0
Answered [] n p = (n ≡ 0) × (p ≡ 0)
Answered (check k A At ∷ cs) n p = cond (eqb n k) ((A → ⊥) × At p) (A × Answered cs n p)

-- the same where a number may stand more than once: the first check is passed and what follows answers so, or it is not and answers so
-- itself
-- 01: Pair.1
abbrev pub Reported : List Check → ℕ → ℕ → Type 0
Reported [] n p = (n ≡ 0) × (p ≡ 0)
Reported (check k A At ∷ cs) n p = (A × Reported cs n p) ⊎ ((A → ⊥) × ((n ≡ k) × At p))

-- k is none of the checks' numbers, and not 0
abbrev pub fresh : ℕ → List Check → Bool
fresh k [] = not (eqb k 0)
fresh k (check j A At ∷ cs) = not (eqb k j) && fresh k cs

-- p is the lowest place with a property
-- 01: Order.3
pub record Lowest (P : ℕ → Type 0) (p : ℕ) : Type 0 where
  pub there : P p
  pub least : (q : ℕ) → P q → p ≤ q

-- p is the lowest place with a property, or, where no place has it, p is as said next
-- 01: Fault1.layout.2
abbrev pub Or : (ℕ → Type 0) → (ℕ → Type 0) → ℕ → Type 0
Or P Q p = Lowest P p ⊎ (((q : ℕ) → P q → ⊥) × Q p)

-- p is the lowest place with a property of the first of n that has such a place
-- 01: Fault1.agree.1
pub record InFirst (n : ℕ) (P : ℕ → ℕ → Type 0) (p : ℕ) : Type 0 where
  pub which : ℕ
  pub counted : which < n
  pub before : (k : ℕ) → k < which → (q : ℕ) → P k q → ⊥
  pub lowest : Lowest (P which) p

-- ---- a question on a file

-- n is answered at the place p to a question on a file with the verdict v: the file's own fault first, and of an accepted file what the
-- question's own checks say
-- 01: No.0, Ask.1
abbrev pub Asked : Verdict → List Check → ℕ → ℕ → Type 0
Asked v cs n p = ((v ≡ Ok tt) × Answered cs n p) ⊎ ((v ≡ Ok tt → ⊥) × ((n ≡ number_in v) × (p ≡ place_in v)))
