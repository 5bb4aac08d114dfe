-- A list of facts in sections: the first section that does not hold gives the number, and its place is where the section's is.
use Prim.Native.Nat.{ℕ, zero, suc}
use mathlib.Core.Path.{◌≡◌, refl, sym, ap, subst, ◌∙◌}
use mathlib.Core.Bool.{Bool, true, false, cond, not, ◌&&◌, true≢false}
use mathlib.Core.Logic.{◌⊎◌, inl, inr, ⊎_elim, ◌↔◌}
use mathlib.Core.List.{List, [], ◌∷◌, ◌++◌, append-nil}
use lib.Dec.{eqb}
use borrow.Author.Tests.{eqb-true, eqb-false}
use Rattle.verdict.specs.declared.Mark.{Mark}
use Rattle.verdict.specs.declared.Reason.{Reason}
use Rattle.verdict.specs.Verdicts.{Judged}
use Rattle.std.specs.Prelude.{Ok, Err}
use Rattle.verdict.specs.Facts.{Claim, test, Holds, Fact, fact, first_fault, AllHold}
use Rattle.verdict.specs.Reasons.{number_of, shown_of, number_in, place_in}
use Rattle.verdict.proofs.Facts.{Agrees, agrees}
use Rattle.verdict.specs.Order.{Check, check, Numbered, Answered, fresh}
use Rattle.refusals.proofs.Sections.{Each, Speaks}
use Rattle.refusals.proofs.Places.{Located, located_one, Only, only_at}

abbrev pub number_for : List Fact → ℕ
number_for fs = number_in (shown_of (first_fault fs))

abbrev pub place_for : List Fact → ℕ
place_for fs = place_in (shown_of (first_fault fs))

-- what is answered on a list of facts is what the checks say
pub record Told (fs : List Fact) (cs : List Check) : Type 0 where
  pub number : (n : ℕ) → (number_for fs ≡ n) ↔ Numbered cs n
  pub answer : (n p : ℕ) → ((number_for fs ≡ n) × (place_for fs ≡ p)) ↔ Answered cs n p

-- a section that does not hold: its refusal is that of the whole list, for the section's reason
pub record Stops (r : Reason) (a b : List Fact) : Type 0 where
  pub not_held : AllHold a → ⊥
  pub mark : Mark
  pub own : first_fault a ≡ Err mark
  pub whole : first_fault (a ++ b) ≡ Err mark
  pub why : mark.reason ≡ r

-- the section holds and the rest counts, or it stops there
pub cut : (says : Mark → Claim) (r : Reason) (a b : List Fact) → Each (Speaks says r) a → (AllHold a × (first_fault (a ++ b) ≡ first_fault b)) ⊎ Stops r a b
unfolding first_fault AllHold
cut says r [] b k = inl (tt, refl)
cut says r (fact c m ∷ fs) b k = go (test c) refl (agrees c) (cut says r fs b k.1)
  where
    go : (t : Bool) → test c ≡ t → Agrees t (Holds c) → (AllHold fs × (first_fault (fs ++ b) ≡ first_fault b)) ⊎ Stops r fs b
        → ((Holds c × AllHold fs) × (cond (test c) (first_fault (fs ++ b)) (Err m) ≡ first_fault b)) ⊎ Stops r (fact c m ∷ fs) b
    go true e a (inl h) = inl ((a, h.0), rw e h.1)
    go true e a (inr h) = inr (record { not_held = λ g. h.not_held g.1; mark = h.mark; own = rw e h.own; whole = rw e h.whole; why = h.why })
    go false e a ih = inr (record { not_held = λ g. a g.0; mark = m; own = rw e; whole = rw e; why = k.0.0 })

-- a number that no check has is not answered
none_numbered : (cs : List Check) (k : ℕ) → fresh k cs ≡ true → Numbered cs k → ⊥
none_numbered [] k e h = go (eqb k 0) refl e
  where
    go : (t : Bool) → eqb k 0 ≡ t → not t ≡ true → ⊥
    go true q f = true≢false (sym f)
    go false q f = eqb-false k 0 q h
none_numbered (check j A At ∷ cs) k e h = go (eqb k j) e h (none_numbered cs k)
  where
    go : (t : Bool) → (not t && fresh k cs) ≡ true → cond t (A → ⊥) (A × Numbered cs k) → (fresh k cs ≡ true → Numbered cs k → ⊥) → ⊥
    go true f g ih = true≢false (sym f)
    go false f g ih = ih f g.1

module _ (says : Mark → Claim) (r : Reason) (a b : List Fact) (A : Type 0) (At : ℕ → Type 0) (cs : List Check) (iff : AllHold a ↔ A) (at : Located a At) (only : Only At) where
  passed : fresh (number_of r) cs ≡ true → A → first_fault (a ++ b) ≡ first_fault b → Told b cs → Told (a ++ b) (check (number_of r) A At ∷ cs)
  passed new x e rest = record { number = λ n. numbers n (eqb n (number_of r)) refl; answer = λ n p. answers n p (eqb n (number_of r)) refl }
    where
      n_same : number_for (a ++ b) ≡ number_for b
      n_same = ap (λ (v : Judged). number_in (shown_of v)) e

      p_same : place_for (a ++ b) ≡ place_for b
      p_same = ap (λ (v : Judged). place_in (shown_of v)) e

      not_this : (n : ℕ) → eqb n (number_of r) ≡ true → number_for (a ++ b) ≡ n → ⊥
      not_this n q h = none_numbered cs (number_of r) new ((rest.number (number_of r)).0 (sym n_same ∙ h ∙ eqb-true n (number_of r) q))

      numbers : (n : ℕ) (t : Bool) → eqb n (number_of r) ≡ t → (number_for (a ++ b) ≡ n) ↔ cond t (A → ⊥) (A × Numbered cs n)
      numbers n true q = (λ h. absurd (not_this n q h), λ f. absurd (f x))
      numbers n false q = (λ h. (x, (rest.number n).0 (sym n_same ∙ h)), λ o. n_same ∙ (rest.number n).1 o.1)

      answers : (n p : ℕ) (t : Bool) → eqb n (number_of r) ≡ t → ((number_for (a ++ b) ≡ n) × (place_for (a ++ b) ≡ p)) ↔ cond t ((A → ⊥) × At p) (A × Answered cs n p)
      answers n p true q = (λ h. absurd (not_this n q h.0), λ f. absurd (f.0 x))
      answers n p false q = (
        λ h. (x, (rest.answer n p).0 (sym n_same ∙ h.0, sym p_same ∙ h.1)),
        λ o. let w = (rest.answer n p).1 o.1 in (n_same ∙ w.0, p_same ∙ w.1),
      )

  failed : Stops r a b → Told (a ++ b) (check (number_of r) A At ∷ cs)
  failed s = record { number = λ n. numbers n (eqb n (number_of r)) refl; answer = λ n p. answers n p (eqb n (number_of r)) refl }
    where
      not_a : A → ⊥
      not_a x = s.not_held (iff.1 x)

      n-is : number_for (a ++ b) ≡ number_of r
      n-is = ap (λ (v : Judged). number_in (shown_of v)) s.whole ∙ ap number_of s.why

      p_is : place_for (a ++ b) ≡ s.mark.place
      p_is = ap (λ (v : Judged). place_in (shown_of v)) s.whole

      numbers : (n : ℕ) (t : Bool) → eqb n (number_of r) ≡ t → (number_for (a ++ b) ≡ n) ↔ cond t (A → ⊥) (A × Numbered cs n)
      numbers n true q = (λ h. not_a, λ f. n-is ∙ sym (eqb-true n (number_of r) q))
      numbers n false q = (λ h. absurd (eqb-false n (number_of r) q (sym h ∙ n-is)), λ o. absurd (not_a o.0))

      answers : (n p : ℕ) (t : Bool) → eqb n (number_of r) ≡ t → ((number_for (a ++ b) ≡ n) × (place_for (a ++ b) ≡ p)) ↔ cond t ((A → ⊥) × At p) (A × Answered cs n p)
      answers n p true q = (
        λ h. (not_a, subst At (sym p_is ∙ h.1) (at s.mark s.own)),
        λ o. (n-is ∙ sym (eqb-true n (number_of r) q), p_is ∙ only s.mark.place p (at s.mark s.own) o.1),
      )
      answers n p false q = (λ h. absurd (eqb-false n (number_of r) q (sym h.0 ∙ n-is)), λ o. absurd (not_a o.0))

  -- LAW: a section whose facts carry one reason, hold exactly where a statement does, and are reported where another says, is one check more.
  pub section : Each (Speaks says r) a → fresh (number_of r) cs ≡ true → (A → Told b cs) → Told (a ++ b) (check (number_of r) A At ∷ cs)
  section k new rest =
      ⊎_elim (λ (h : AllHold a × (first_fault (a ++ b) ≡ first_fault b)). passed new (iff.0 h.0) h.1 (rest (iff.0 h.0))) (λ (h : Stops r a b). failed h) (cut says r a b k)

pub no_more : Told [] []
unfolding first_fault
no_more = record { number = λ n. (λ e. sym e, λ e. sym e); answer = λ n p. (λ h. (sym h.0, sym h.1), λ h. (sym h.0, sym h.1)) }

-- the last section
pub last_section : (says : Mark → Claim) (r : Reason) (a : List Fact) (A : Type 0) (At : ℕ → Type 0) → AllHold a ↔ A → Located a At → Only At
    → Each (Speaks says r) a → fresh (number_of r) [] ≡ true → Told a (check (number_of r) A At ∷ [])
last_section says r a A At iff at only k new =
    subst (λ (l : List Fact). Told l (check (number_of r) A At ∷ [])) (append-nil a) (section says r a [] A At [] iff at only k new (λ _. no_more))

-- ---- a check of one fact, which is reported at that fact's place

abbrev pub claim_in : Fact → Claim
claim_in (fact c m) = c

abbrev pub mark_in : Fact → Mark
mark_in (fact c m) = m

pub one_fact : (says : Mark → Claim) (r : Reason) (x : Fact) (b : List Fact) (cs : List Check) → Each (Speaks says r) (x ∷ []) → fresh (number_of r) cs ≡ true → Told b cs
    → Told (x ∷ b) (check (number_of r) (Holds (claim_in x)) (λ p. p ≡ (mark_in x).place) ∷ cs)
unfolding AllHold
one_fact says r (fact c m) b cs k new rest =
    section says r (fact c m ∷ []) b (Holds c) (λ p. p ≡ m.place) cs (λ h. h.0, λ h. (h, tt)) (located_one m.place (fact c m ∷ []) (refl, tt))
    (only_at m.place) k new (λ _. rest)

-- the checks without the first k
abbrev pub drop : ℕ → List Check → List Check
drop zero cs = cs
drop (suc k) [] = []
drop (suc k) (c ∷ cs) = drop k cs
