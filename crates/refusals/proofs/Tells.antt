-- The same where a number may stand more than once among the checks (`Reported`): a fact alone, or a section, is one check more.
use Prim.Native.Nat.{ℕ}
use mathlib.Core.Path.{◌≡◌, sym, ap, subst, ◌∙◌}
use mathlib.Core.Bool.{Bool, true, false, cond}
use mathlib.Core.Logic.{◌⊎◌, inl, inr, ⊎_elim, ◌↔◌}
use mathlib.Core.List.{List, [], ◌∷◌, ◌++◌, append-nil}
use Rattle.verdict.specs.declared.Mark.{Mark}
use Rattle.verdict.specs.declared.Reason.{Reason}
use Rattle.verdict.specs.Verdicts.{Judged}
use Rattle.std.specs.Prelude.{Ok, Err}
use Rattle.verdict.specs.Facts.{Claim, test, Holds, Fact, fact, first_fault, AllHold}
use Rattle.verdict.proofs.Facts.{Agrees, agrees}
use Rattle.verdict.specs.Reasons.{number_of, shown_of, number_in, place_in}
use Rattle.verdict.specs.Order.{Check, check, Reported}
use Rattle.refusals.proofs.Sections.{Each, Speaks}
use Rattle.refusals.proofs.Places.{Located, Only}
use Rattle.refusals.proofs.Told.{number_for, place_for, Stops, cut}

-- what is answered on a list of facts is what the checks say
pub record Tells (fs : List Fact) (cs : List Check) : Type 0 where
  pub is : (n p : ℕ) → ((number_for fs ≡ n) × (place_for fs ≡ p)) ↔ Reported cs n p

pub nothing : Tells [] []
unfolding first_fault
nothing = record { is = λ n p. (λ h. (sym h.0, sym h.1), λ h. (sym h.0, sym h.1)) }

-- ---- a fact alone

-- LAW: a fact is one check more; where it is passed, the rest counts.
pub one_more : (c : Claim) (m : Mark) (b : List Fact) (A : Type 0) (cs : List Check) → Holds c ↔ A → (A → Tells b cs) → Tells (fact c m ∷ b) (check (number_of m.reason) A (λ p. p ≡ m.place) ∷ cs)
unfolding first_fault
one_more c m b A cs iff rest = record { is = λ n p. go n p (test c) (agrees c) }
  where
    go : (n p : ℕ) (t : Bool) → Agrees t (Holds c)
        → ((number_in (shown_of (cond t (first_fault b) (Err m))) ≡ n) × (place_in (shown_of (cond t (first_fault b) (Err m))) ≡ p))
        ↔ ((A × Reported cs n p) ⊎ ((A → ⊥) × ((n ≡ number_of m.reason) × (p ≡ m.place))))
    go n p true a =
        let x = iff.0 a in (
          λ h. inl (x, ((rest x).is n p).0 h),
          λ h. ⊎_elim (λ (y : A × Reported cs n p). ((rest x).is n p).1 y.1) (λ (y : (A → ⊥) × ((n ≡ number_of m.reason) × (p ≡ m.place))). absurd (y.0 x)) h,
        )
    go n p false a = (
      λ h. inr (λ x. a (iff.1 x), (sym h.0, sym h.1)),
      λ h. ⊎_elim (λ (y : A × Reported cs n p). absurd (a (iff.1 y.0))) (λ (y : (A → ⊥) × ((n ≡ number_of m.reason) × (p ≡ m.place))). (sym y.1.0, sym y.1.1)) h,
    )

-- ---- a section

module _ (r : Reason) (a b : List Fact) (A : Type 0) (At : ℕ → Type 0) (cs : List Check) (iff : AllHold a ↔ A) (at : Located a At) (only : Only At) where
  -- this check is not passed, and is the one that is reported
  abbrev Here : ℕ → ℕ → Type 0
  Here n p = (A → ⊥) × ((n ≡ number_of r) × At p)

  passed : A → first_fault (a ++ b) ≡ first_fault b → Tells b cs → Tells (a ++ b) (check (number_of r) A At ∷ cs)
  passed x e rest =
      let n_same = ap (λ (v : Judged). number_in (shown_of v)) e in
      let p_same = ap (λ (v : Judged). place_in (shown_of v)) e in
      record {
        is = λ n p. (
          λ h. inl (x, (rest.is n p).0 (sym n_same ∙ h.0, sym p_same ∙ h.1)),
          λ h. ⊎_elim (λ (y : A × Reported cs n p). let w = (rest.is n p).1 y.1 in (n_same ∙ w.0, p_same ∙ w.1)) (λ (y : Here n p). absurd (y.0 x)) h,
        );
      }

  failed : Stops r a b → Tells (a ++ b) (check (number_of r) A At ∷ cs)
  failed s =
      let not_a : A → ⊥ = λ x. s.not_held (iff.1 x) in
      let n-is = ap (λ (v : Judged). number_in (shown_of v)) s.whole ∙ ap number_of s.why in
      let p_is = ap (λ (v : Judged). place_in (shown_of v)) s.whole in
      let there = at s.mark s.own in
      record {
        is = λ n p. (
          λ h. inr (not_a, (sym h.0 ∙ n-is, subst At (sym p_is ∙ h.1) there)),
          λ h. ⊎_elim (λ (y : A × Reported cs n p). absurd (not_a y.0)) (λ (y : Here n p). (n-is ∙ sym y.1.0, p_is ∙ only s.mark.place p there y.1.1)) h,
        );
      }

  -- LAW: a section whose facts carry one reason, hold exactly where a statement does, and are reported where another says, is one check more.
  pub tells_section : (says : Mark → Claim) → Each (Speaks says r) a → (A → Tells b cs) → Tells (a ++ b) (check (number_of r) A At ∷ cs)
  tells_section says k rest =
      ⊎_elim (λ (h : AllHold a × (first_fault (a ++ b) ≡ first_fault b)). let x = iff.0 h.0 in passed x h.1 (rest x)) (λ (h : Stops r a b). failed h) (cut says r a b k)

-- the last section
pub tells_last : (says : Mark → Claim) (r : Reason) (a : List Fact) (A : Type 0) (At : ℕ → Type 0) → AllHold a ↔ A → Located a At → Only At
    → Each (Speaks says r) a → Tells a (check (number_of r) A At ∷ [])
tells_last says r a A At iff at only k =
    subst (λ (l : List Fact). Tells l (check (number_of r) A At ∷ [])) (append-nil a) (tells_section r a [] A At [] iff at only says k (λ _. nothing))
