-- Claims, facts, and the verdict on a list of facts: the first that fails, in the list's order.
-- A claim is what a rule says of some numbers; it can be tested and it can be stated. A fact is a claim with the mark of the refusal
-- that it gives where it is the first to fail.
use Rattle.std.specs.Prelude.{ℕ, ◌≤◌, ◌≡◌, Bool, true, false, cond, not, ◌&&◌, ◌||◌, ◌⊎◌, eqb, leb}
use mathlib.Core.List.{List, [], ◌∷◌, ◌++◌, Memᴰ}
use Rattle.verdict.specs.declared.Reason.{Reason}
use Rattle.verdict.specs.declared.Rule.{Rule}
use Rattle.verdict.specs.declared.Mark.{Mark}
use Rattle.verdict.specs.Verdicts.{Judged}
use Rattle.std.specs.Prelude.{Ok, Err}

-- what a rule says of some numbers
pub data Claim : Type 0 where
  always : Claim
  same : ℕ → ℕ → Claim
  at_most : ℕ → ℕ → Claim
  both : Claim → Claim → Claim
  either : Claim → Claim → Claim
  denied : Claim → Claim
  some : List ℕ → (ℕ → Claim) → Claim
  every : List ℕ → (ℕ → Claim) → Claim

-- one of the numbers passes the test
abbrev pub any_of : (ℕ → Bool) → List ℕ → Bool
any_of t [] = false
any_of t (x ∷ xs) = t x || any_of t xs

-- each of the numbers passes the test
abbrev pub all_of : (ℕ → Bool) → List ℕ → Bool
all_of t [] = true
all_of t (x ∷ xs) = t x && all_of t xs

-- a claim, decided
abbrev pub test : Claim → Bool
test always = true
test (same a b) = eqb a b
test (at_most a b) = leb a b
test (both c d) = test c && test d
test (either c d) = test c || test d
test (denied c) = not (test c)
test (some xs c) = any_of (λ x. test (c x)) xs
test (every xs c) = all_of (λ x. test (c x)) xs

-- a claim, as a statement
abbrev pub Holds : Claim → Type 0
Holds always = Unit {0}
Holds (same a b) = a ≡ b
Holds (at_most a b) = a ≤ b
Holds (both c d) = Holds c × Holds d
Holds (either c d) = Holds c ⊎ Holds d
Holds (denied c) = Holds c → ⊥
Holds (some xs c) = (x : ℕ) × Memᴰ x xs × Holds (c x)
Holds (every xs c) = (x : ℕ) → Memᴰ x xs → Holds (c x)

-- what a fact is about: the reason, the start of its record, the place that is reported, how many bytes stand there, and the rule
abbrev pub mark : Reason → ℕ → ℕ → ℕ → Rule → Mark
mark reason start place width rule = record { reason = reason; start = start; place = place; width = width; rule = rule }

-- a claim, with the mark of the refusal where it is the first that fails
pub data Fact : Type 0 where
  fact : Claim → Mark → Fact

-- the verdict on a list of facts: the first that fails
unfoldable pub first_fault : List Fact → Judged
first_fault [] = Ok tt
first_fault (fact c m ∷ fs) = cond (test c) (first_fault fs) (Err m)

-- every fact of a list holds
unfoldable pub AllHold : List Fact → Type 0
AllHold [] = Unit {0}
AllHold (fact c m ∷ fs) = Holds c × AllHold fs

-- every fact of a list passes its test: the same, decided, and without the marks
abbrev pub all_tests : List Fact → Bool
all_tests [] = true
all_tests (fact c m ∷ fs) = test c && all_tests fs

-- one fact alone, by whether it holds
abbrev pub alone : Bool → Mark → Judged
alone holds m = cond holds (Ok tt) (Err m)

-- each fact is the claim that its mark names
abbrev pub Marked : (Mark → Claim) → List Fact → Type 0
Marked says [] = Unit {0}
Marked says (fact c m ∷ fs) = (c ≡ says m) × Marked says fs

-- The true reason of a refusal: its mark stands in the list, every fact before it holds, and what the mark says fails.
pub record TrueReason (says : Mark → Claim) (fs : List Fact) (m : Mark) : Type 0 where
  pub before : List Fact
  pub after : List Fact
  pub there : fs ≡ before ++ (fact (says m) m ∷ after)
  pub held : AllHold before
  pub fails : Holds (says m) → ⊥
