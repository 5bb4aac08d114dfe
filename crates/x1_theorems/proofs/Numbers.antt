-- THEOREMS: the number and the place of an X.1 verdict are those of the first check, in the order of 01's table, that the file does not pass;
-- the mark of a refusal is its true reason, and its number and place are those answered; accepted is exactly where the file obeys.
use Prim.Native.Nat.{ℕ, ◌≤◌, ◌<◌}
use mathlib.Core.Path.{◌≡◌, refl, ap}
use mathlib.Core.Logic.{◌↔◌}
use mathlib.Core.List.{List, ◌++◌}
use lib.ListN.{length, take}
use Rattle.octets.specs.Octets.{num_at}
use Rattle.checksum.specs.Checksum.{checksum_of}
use Rattle.verdict.specs.declared.Mark.{Mark}
use Rattle.verdict.specs.declared.Reason.TheVariants.{Layout, Field, Agreement}
use Rattle.verdict.specs.Verdicts.{Judged}
use Rattle.std.specs.Prelude.{Ok, Err}
use Rattle.verdict.specs.Facts.{TrueReason}
use Rattle.verdict.specs.Reasons.{number_of, shown_of, number_in, place_in}
use Rattle.verdict.specs.Order.{Reported, Lowest, InFirst}
use Rattle.verdict.proofs.Facts.{true_reason}
use Rattle.verdict.proofs.Questions.{some_number}
use Rattle.refusals.proofs.Places.{only_lowest, only_in_first}
use Rattle.refusals.proofs.Told.{drop}
use Rattle.refusals.proofs.Tells.{Tells, one_more, tells_section, tells_last}
use Rattle.envelope.specs.Seal.{end_of}
use Rattle.x1_records.proofs.Whole.{size_positive, size_wide}
use Rattle.x1_layout.specs.Layout.{structure_of, size_of, count_of, layout_facts}
use Rattle.x1_verdict.specs.Fields.{field_facts}
use Rattle.x1_verdict.specs.Agreement.{agreement_facts}
use Rattle.x1_verdict.specs.Facts.{sized_facts, facts_by, judged_by, verdict_by, facts, judged_of, verdict_of}
use Rattle.x1_obeys.specs.Obeys.{Between, LayoutObeys, FieldsObey, AgreementObeys, ObeysBy, Obeys}
use Rattle.x1_theorems.specs.Faults.{LayoutPlace, FieldAtFault, TrackAtFault, checks_by, checks}
use Rattle.x1_theorems.specs.Says.{says_of}
use Rattle.x1_obeys.proofs.Obeys.{layout_iff, fields_iff, agreement_iff, least_iff, accepted_obeys_by}
use Rattle.x1_theorems.proofs.Speaks.{layout_speaks, fields_speak, agreement_speaks, facts_marked}
use Rattle.x1_theorems.proofs.FieldPlaces.{layout_located, only_layout, fields_located}
use Rattle.x1_theorems.proofs.AgreementPlaces.{agreement_located}

-- no refusal has the number 0
number_accepted : (v : Judged) → (number_in (shown_of v) ≡ 0) ↔ (v ≡ Ok tt)
number_accepted (Ok tt) = (λ e. refl, λ e. refl)
number_accepted (Err m) = (λ e. absurd (some_number m.reason e), λ e. absurd (some_number m.reason (ap (λ (v : Judged). number_in (shown_of v)) e)))

-- a fact that says of itself what the table says
pub same_iff : {A : Type 0} → A ↔ A
same_iff = (λ h. h, λ h. h)

-- ---- check by check

module _ (newest : ℕ) (f : List ℕ) where
  abbrev size : ℕ
  size = size_of f

  positive : 0 < size
  positive = size_positive (structure_of f)

  agreed : LayoutObeys f size → Tells (agreement_facts f size) (drop 7 (checks_by newest f))
  agreed o =
      let P = TrackAtFault f size in
      tells_last (says_of f) Agreement (agreement_facts f size) (AgreementObeys f size) (InFirst (count_of f) P)
      (agreement_iff f size positive o) (agreement_located f size positive o) (only_in_first (count_of f) P) (agreement_speaks f size)

  filled : LayoutObeys f size → Tells (field_facts f size ++ agreement_facts f size) (drop 6 (checks_by newest f))
  filled o =
      let P = FieldAtFault f size in
      tells_section Field (field_facts f size) (agreement_facts f size) (FieldsObey f size) (Lowest P) (drop 7 (checks_by newest f))
      (fields_iff f size positive) (fields_located f size (size_wide (structure_of f))) (only_lowest P) (says_of f) (fields_speak f size) (λ _. agreed o)

  laid : Tells (sized_facts f size) (drop 5 (checks_by newest f))
  unfolding sized_facts
  laid =
      tells_section Layout (layout_facts f size) (field_facts f size ++ agreement_facts f size) (LayoutObeys f size) (LayoutPlace f size) (drop 6 (checks_by newest f))
      (layout_iff f size positive) (layout_located f size positive) (only_layout f size positive) (says_of f) (layout_speaks f size) filled

  told : Tells (facts_by newest f) (checks_by newest f)
  unfolding facts_by
  told =
      one_more _ _ _ (Between 68 65535 (length f)) _ same_iff (λ long.
      one_more _ _ _ (num_at 4 f (end_of f) ≡ checksum_of (take (end_of f) f)) _ same_iff (λ _.
      one_more _ _ _ (num_at 1 f 0 ≡ 1) _ same_iff (λ _.
      one_more _ _ _ (Between 1 newest (num_at 2 f 1)) _ same_iff (λ _.
      one_more _ _ _ (2 ≤ structure_of f → 72 ≤ length f) _ (least_iff f long) (λ _. laid)))))

-- ---- the theorems, for a reader that knows the structure versions up to the newest

-- THEOREM: n is answered at the place p exactly where the table says so.
pub answered_by : (newest : ℕ) (f : List ℕ) (n p : ℕ) → ((number_in (verdict_by newest f) ≡ n) × (place_in (verdict_by newest f) ≡ p)) ↔ Reported (checks_by newest f) n p
answered_by newest f = (told newest f).is

-- THEOREM: a file is accepted exactly where it obeys.
pub accepted_by : (newest : ℕ) (f : List ℕ) → (number_in (verdict_by newest f) ≡ 0) ↔ ObeysBy newest f
accepted_by newest f =
    let zero_is = number_accepted (judged_by newest f) in
    let obeys = accepted_obeys_by newest f in
    (λ e. obeys.0 (zero_is.0 e), λ o. zero_is.1 (obeys.1 o))

-- ---- and for the reader that users have

-- THEOREM: n is answered exactly where 01's table says so, at some place.
pub number_is : (f : List ℕ) (n : ℕ) → (number_in (verdict_of f) ≡ n) ↔ ((p : ℕ) × Reported (checks f) n p)
number_is f n = (λ e. (place_in (verdict_of f), (answered_by 2 f n (place_in (verdict_of f))).0 (e, refl)), λ h. ((answered_by 2 f n h.0).1 h.1).0)

-- THEOREM: n is answered at the place p exactly where 01's table says so.
pub answer_is : (f : List ℕ) (n p : ℕ) → ((number_in (verdict_of f) ≡ n) × (place_in (verdict_of f) ≡ p)) ↔ Reported (checks f) n p
answer_is = answered_by 2

-- THEOREM: a file is accepted exactly where it obeys.
pub accepted_is : (f : List ℕ) → (number_in (verdict_of f) ≡ 0) ↔ Obeys f
accepted_is = accepted_by 2

-- THEOREM: the mark of a refusal is its true reason: it stands in the list, every fact before it holds, and what it says fails.
pub refused_truly : (f : List ℕ) (m : Mark) → judged_of f ≡ Err m → TrueReason (says_of f) (facts f) m
refused_truly f m e = true_reason (says_of f) (facts f) m (facts_marked 2 f) e

-- THEOREM: the number of its reason and its place are those answered.
pub refused_answered : (f : List ℕ) (m : Mark) → judged_of f ≡ Err m → Reported (checks f) (number_of m.reason) m.place
refused_answered f m e =
    (answer_is f (number_of m.reason) m.place).0 (ap (λ (v : Judged). number_in (shown_of v)) e, ap (λ (v : Judged). place_in (shown_of v)) e)
