-- What is answered of a file: its verdict is accepted where no fact fails, and a question first gives the file's own fault. `say` makes an
-- answer of a fault, and w is the file's verdict. And what a refused answer holds besides its number and place.
use Prim.Native.Nat.{ℕ, suc, zero, ◌<◌}
use mathlib.Core.Bool.{Bool, true, false, cond}
use lib.IntN.{ℤ, pos}
use lib.ListN.{replicate}
use lib.Dec.{eqb}
use borrow.Author.Tests.{eqb-true, eqb-false}
use mathlib.Core.Path.{◌≡◌, refl, sym, ap, ◌∙◌}
use mathlib.Core.Logic.{◌⊎◌, inl, inr, ⊎_elim, ◌↔◌}
use mathlib.Core.List.Memᴰ
use mathlib.Core.List.{List, [], ◌∷◌, Memᴰ}
use native.Mathlib.Omega.{arith}
use Rattle.verdict.specs.declared.Reason.{Reason}
use Rattle.verdict.specs.declared.Reason.TheVariants as why
use Rattle.verdict.specs.declared.Fault.{Fault}
use Rattle.verdict.specs.Verdicts.{Judged}
use Rattle.std.specs.Prelude.{Ok, Err}
use Rattle.std.specs.Result.{result_err}
use Rattle.verdict.specs.Verdicts.{Verdict}
use Rattle.verdict.specs.Reasons.{number_of, shown_of, number_in, place_in, number_by, place_by}
use Rattle.verdict.specs.Answers.{Answer, answered, refused, answer_number, answer_place, answer_values, refusal, after_verdict}
use Rattle.verdict.specs.Order.{Check, check, Answered, Asked}

pub shown_accepted : (v : Judged) → (shown_of v ≡ Ok tt) ↔ (v ≡ Ok tt)
shown_accepted (Ok tt) = (λ e. refl, λ e. refl)
shown_accepted (Err m) = (λ e. let z : ◌≡◌ {A = ℕ} 0 1 = cc in absurd (omega arith), λ e. let z : ◌≡◌ {A = ℕ} 0 1 = cc in absurd (omega arith))

module _ {A : Type 0} (say : Fault → A) (w : Verdict) where
  pub fault_is : (t : Fault) (a : A) → w ≡ Err t → after_verdict say w a ≡ say t
  fault_is t a g = ap (λ (x : Verdict). after_verdict say x a) g

  pub no_fault : (a : A) → w ≡ Ok tt → after_verdict say w a ≡ a
  no_fault a g = ap (λ (x : Verdict). after_verdict say x a) g

  -- the verdict v as it was found refuses, so the answer is its fault t, whatever else would be answered
  pub own_fault : (v : Verdict) (t : Fault) → v ≡ w → v ≡ Err t → (a : A) → say t ≡ after_verdict say w a
  own_fault v t e g a = sym (fault_is t a (sym e ∙ g))

  -- an answer b that is no fault is given in an accepted file alone
  pub accepted_by : (a b : A) → ((t : Fault) → say t ≡ b → ⊥) → after_verdict say w a ≡ b → (w ≡ Ok tt) × (a ≡ b)
  accepted_by a b never = go w
    where
      go : (v : Verdict) → after_verdict say v a ≡ b → (v ≡ Ok tt) × (a ≡ b)
      go (Ok tt) e = (refl, e)
      go (Err t) e = absurd (never t e)

-- ---- the number and the place of an answer

-- by its fault, and by the whole of it
pub number_shown : (v : Verdict) → number_by (result_err v) ≡ number_in v
number_shown (Ok tt) = refl
number_shown (Err t) = refl

pub place_shown : (v : Verdict) → place_by (result_err v) ≡ place_in v
place_shown (Ok tt) = refl
place_shown (Err t) = refl

verdict_refused : (t : Fault) → ◌≡◌ {A = Verdict} (Err t) (Ok tt) → ⊥
verdict_refused t e = let z : ◌≡◌ {A = ℕ} 0 1 = cc in omega arith

-- LAW: what is answered after a file's verdict is the file's own fault, or what the question's own checks say. `say` makes an answer of a
-- fault and `shape` shows an answer.
pub asked_is : {A : Type 0} (say : Fault → A) (shape : A → Answer) (v : Verdict) (a : A) (cs : List Check)
    → ((t : Fault) → (answer_number (shape (say t)) ≡ number_of t.reason) × (answer_place (shape (say t)) ≡ t.place))
    → (v ≡ Ok tt → (n p : ℕ) → ((answer_number (shape a) ≡ n) × (answer_place (shape a) ≡ p)) ↔ Answered cs n p)
    → (n p : ℕ) → ((answer_number (shape (after_verdict say v a)) ≡ n) × (answer_place (shape (after_verdict say v a)) ≡ p)) ↔ Asked v cs n p
asked_is say shape (Ok tt) a cs own mine n p = (
  λ h. inl (refl, (mine refl n p).0 h),
  λ h. ⊎_elim (λ (x : (◌≡◌ {A = Verdict} (Ok tt) (Ok tt)) × Answered cs n p). (mine refl n p).1 x.1) (λ (x : (◌≡◌ {A = Verdict} (Ok tt) (Ok tt) → ⊥) × ((n ≡ 0) × (p ≡ 0))). absurd (x.0 refl)) h,
)
asked_is say shape (Err t) a cs own mine n p =
    let o = own t in (
      λ h. inr (verdict_refused t, (sym h.0 ∙ o.0, sym h.1 ∙ o.1)),
      λ h. ⊎_elim (λ (x : (◌≡◌ {A = Verdict} (Err t) (Ok tt)) × Answered cs n p). absurd (verdict_refused t x.0)) (λ (x : (◌≡◌ {A = Verdict} (Err t) (Ok tt) → ⊥) × ((n ≡ number_of t.reason) × (p ≡ t.place))). (o.0 ∙ sym x.1.0, o.1 ∙ sym x.1.1)) h,
    )

-- ---- a question's own checks, each with place 0

-- what is answered is what the checks say
pub record AnswerIs (a : Answer) (cs : List Check) : Type 0 where
  pub exactly : (n p : ℕ) → ((answer_number a ≡ n) × (answer_place a ≡ p)) ↔ Answered cs n p

-- no check is left
pub all_passed : (values : List ℤ) → AnswerIs (answered values) []
all_passed values = record { exactly = λ n p. (λ h. (sym h.0, sym h.1), λ h. (sym h.0, sym h.1)) }

module _ (A : Type 0) (cs : List Check) where
  -- the first one is passed
  pub passed : (k : ℕ) (a : Answer) → A → ¬ (answer_number a ≡ k) → AnswerIs a cs → AnswerIs a (check k A (λ p. p ≡ 0) ∷ cs)
  passed k a there other rest = record { exactly = λ n p. by_test n p (eqb n k) refl }
    where
      by_test : (n p : ℕ) (t : Bool) → eqb n k ≡ t → ((answer_number a ≡ n) × (answer_place a ≡ p)) ↔ cond t ((A → ⊥) × (p ≡ 0)) (A × Answered cs n p)
      by_test n p true e = (λ h. absurd (other (h.0 ∙ eqb-true n k e)), λ h. absurd (h.0 there))
      by_test n p false e = (λ h. (there, (rest.exactly n p).0 h), λ h. (rest.exactly n p).1 h.1)

  -- the first one is not
  pub failed : (r : Reason) (values : ℕ) → ¬ A → AnswerIs (refused values (refusal r)) (check (number_of r) A (λ p. p ≡ 0) ∷ cs)
  failed r values none = record { exactly = λ n p. by_test n p (eqb n (number_of r)) refl }
    where
      by_test : (n p : ℕ) (t : Bool) → eqb n (number_of r) ≡ t → ((number_of r ≡ n) × (0 ≡ p)) ↔ cond t ((A → ⊥) × (p ≡ 0)) (A × Answered cs n p)
      by_test n p true e = (λ h. (none, sym h.1), λ h. (sym (eqb-true n (number_of r) e), sym h.1))
      by_test n p false e = (λ h. absurd (eqb-false n (number_of r) e (sym h.0)), λ h. absurd (none h.0))

-- a refusal's number is not 0
pub number_above : (u : Reason) → 0 < number_of u
number_above why.Length = omega arith
number_above why.Checksum = omega arith
number_above why.FileType = omega arith
number_above why.Structure = omega arith
number_above why.Layout = omega arith
number_above why.Field = omega arith
number_above why.Agreement = omega arith
number_above why.Target = omega arith
number_above why.Return = omega arith
number_above why.Station = omega arith
number_above why.Track = omega arith
number_above why.Position = omega arith
number_above why.Question = omega arith
number_above why.Steps = omega arith
number_above why.Room = omega arith
number_above why.Kinds = omega arith
number_above why.Identity = omega arith
number_above why.Order = omega arith
number_above why.Piece = omega arith

pub some_number : (u : Reason) → ¬ (number_of u ≡ 0)
some_number u e = let above : 0 < number_of u = number_above u in omega arith

-- ---- a refused answer: all else in it is 0

all_zero : (n : ℕ) (v : ℤ) → Memᴰ v (replicate n (pos 0)) → v ≡ pos 0
unfolding replicate
all_zero zero v m = absurd (Memᴰ.not-nil m)
all_zero (suc n) v m = ⊎_elim (λ (e : v ≡ pos 0). e) (λ (k : Memᴰ v (replicate n (pos 0))). all_zero n v k) (Memᴰ.cases_cons m)

-- THEOREM
pub refused_zeros : (a : Answer) → (answer_number a ≡ 0 → ⊥) → (v : ℤ) → Memᴰ v (answer_values a) → v ≡ pos 0
refused_zeros (answered values) n v m = absurd (n refl)
refused_zeros (refused k t) n v m = all_zero k v m
