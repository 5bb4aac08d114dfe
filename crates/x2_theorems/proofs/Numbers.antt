-- THEOREM: the number and the place of an X.2 verdict are those of the first check, in the order of 01's table, that the file does not pass.
use Prim.Native.Nat.{ℕ}
use mathlib.Core.Path.{◌≡◌, refl, ap}
use mathlib.Core.Logic.{◌↔◌}
use mathlib.Core.List.{List, [], ◌∷◌, ◌++◌}
use lib.ListN.{take}
use Rattle.octets.specs.declared.Width.TheVariants.{One, Two, Four}
use Rattle.checksum.specs.Checksum.{checksum_of}
use Rattle.verdict.specs.declared.Mark.{Mark}
use Rattle.verdict.specs.Verdicts.{Judged}
use Rattle.std.specs.Prelude.{Ok, Err}
use Rattle.verdict.specs.declared.Reason.TheVariants.{Length, Checksum, FileType, Structure, Layout, Field, Agreement, Target, Return}
use Rattle.verdict.specs.Facts.{AllHold}
use Rattle.verdict.specs.Reasons.{number_of, shown_of, number_in, place_in}
use Rattle.verdict.specs.Order.{check, Numbered, Answered, Lowest}
use Rattle.refusals.proofs.Places.{located_one, only_at, only_lowest}
use Rattle.refusals.proofs.Told.{Told, section, last_section, one_fact, drop}
use Rattle.rules.specs.Rules.{length_between, is_number, between}
use Rattle.envelope.specs.Seal.{most_length, type_at, structure_at, end_of, structure_of}
use Rattle.x2_layout.specs.Layout.{layout_of}
use Rattle.x2_layout.specs.Facts.{layout_facts}
use Rattle.x2_layout.specs.Obeys.{LayoutObeys}
use Rattle.x2_theorems.specs.LayoutFaults.{LayoutPlace}
use Rattle.x2_theorems.specs.LayoutSays.{layout_says}
use Rattle.x2_layout.specs.inner.Regions.{Regions}
use Rattle.x2_layout.proofs.Obeys.{layout_obeyed}
use Rattle.x2_layout.proofs.Regions.{regions, some_boundary}
use Rattle.x2_theorems.proofs.LayoutSpeaks.{layout_speak}
use Rattle.x2_theorems.proofs.LayoutPlaces.{layout_located, only_layout}
use Rattle.x2_fields.specs.Fields.{field_facts}
use Rattle.x2_fields.specs.Agreement.{agreement_facts}
use Rattle.x2_obeys.specs.Fields.{FieldsObey, AgreementObeys}
use Rattle.x2_theorems.specs.FieldFaults.{FieldAtFault, AgreementAtFault}
use Rattle.x2_theorems.specs.FieldSays.{field_says, agreement_says}
use Rattle.x2_obeys.proofs.Fields.{fields_iff, agreement_iff}
use Rattle.x2_theorems.proofs.FieldSpeaks.{fields_speak, agreement_speak}
use Rattle.x2_theorems.proofs.FieldPlaces.{fields_located, agreement_located}
use Rattle.x2_links.specs.Links.{target_facts, return_facts}
use Rattle.x2_obeys.specs.Links.{TargetsObey, ReturnsObey}
use Rattle.x2_theorems.specs.LinkFaults.{TargetAtFault, ReturnAtFault}
use Rattle.x2_theorems.specs.LinkSays.{target_says, return_says}
use Rattle.x2_obeys.proofs.Links.{targets_iff, returns_iff}
use Rattle.x2_theorems.proofs.LinkSpeaks.{targets_speak, returns_speak}
use Rattle.x2_theorems.proofs.LinkPlaces.{targets_located, returns_located}
use Rattle.x2_verdict.specs.Facts.{least_length, file_type, newest_version, record_facts, check_facts, facts, judged_of, verdict_of}
use Rattle.x2_verdict.specs.Obeys.{Obeys}
use Rattle.x2_verdict.proofs.Obeys.{one_iff}
use Rattle.x2_theorems.specs.Checks.{checks}
use Rattle.x2_theorems.specs.Says.{seal_says}

-- ---- all of them

module _ (f : List ℕ) where
  -- the records of a file whose layout obeys
  of_records : Regions f (layout_of f) → Told (record_facts f (layout_of f)) (drop 5 (checks f))
  unfolding record_facts
  of_records r =
      let l = layout_of f in
      let linked = target_facts f l ++ return_facts f l in
      let agreed = agreement_facts f l ++ linked in
      section (field_says f l) Field (field_facts f l) agreed (FieldsObey f l) (Lowest (FieldAtFault f l)) (drop 6 (checks f)) (fields_iff f l) (fields_located f l r) (only_lowest (FieldAtFault f l)) (fields_speak f l) refl (λ _.
      section (agreement_says f l) Agreement (agreement_facts f l) linked (AgreementObeys f l) (Lowest (AgreementAtFault f l)) (drop 7 (checks f)) (agreement_iff f l (some_boundary r)) (agreement_located f l r) (only_lowest (AgreementAtFault f l)) (agreement_speak f l) refl (λ _.
      section (target_says f l) Target (target_facts f l) (return_facts f l) (TargetsObey f l) (Lowest (TargetAtFault f l)) (drop 8 (checks f)) (targets_iff f l) (targets_located f l r) (only_lowest (TargetAtFault f l)) (targets_speak f l) refl (λ _.
      last_section (return_says f l) Return (return_facts f l) (ReturnsObey f l) (Lowest (ReturnAtFault f l)) (returns_iff f l (some_boundary r)) (returns_located f l r) (only_lowest (ReturnAtFault f l)) (returns_speak f l) refl)))

  version_iff : AllHold (between Structure f 0 structure_at Two 1 newest_version ∷ []) ↔ (structure_of f ≡ 1)
  unfolding AllHold
  version_iff = let one = one_iff (structure_of f) in (λ h. one.0 h.0, λ e. (one.1 e, tt))

  told : Told (facts f) (checks f)
  unfolding facts check_facts
  told =
      let l = layout_of f in
      let length_fact = length_between f least_length most_length in
      let sum_fact = is_number Checksum f 0 (end_of f) Four (checksum_of (take (end_of f) f)) in
      let type_fact = is_number FileType f 0 type_at One file_type in
      let version_fact = between Structure f 0 structure_at Two 1 newest_version in
      let rest = layout_facts f l ++ record_facts f l in
      one_fact (seal_says f) Length length_fact (sum_fact ∷ type_fact ∷ version_fact ∷ rest) (drop 1 (checks f)) ((refl, refl), tt) refl
      (one_fact (seal_says f) Checksum sum_fact (type_fact ∷ version_fact ∷ rest) (drop 2 (checks f)) ((refl, refl), tt) refl
      (one_fact (seal_says f) FileType type_fact (version_fact ∷ rest) (drop 3 (checks f)) ((refl, refl), tt) refl
      (section (seal_says f) Structure (version_fact ∷ []) rest (structure_of f ≡ 1) (λ p. p ≡ structure_at) (drop 4 (checks f)) version_iff (located_one structure_at (version_fact ∷ []) (refl, tt)) (only_at structure_at) ((refl, refl), tt) refl (λ _.
      section (layout_says f) Layout (layout_facts f l) (record_facts f l) (LayoutObeys f l) (LayoutPlace f l) (drop 5 (checks f)) (layout_obeyed f l) (layout_located f l) (only_layout f l) (layout_speak f l) refl (λ o.
      of_records (regions f o))))))

-- THEOREM: n is answered exactly where the table says so.
pub number_is : (f : List ℕ) (n : ℕ) → (number_in (verdict_of f) ≡ n) ↔ Numbered (checks f) n
number_is f = (told f).number

-- THEOREM: n is answered at the place p exactly where the table says so.
pub answer_is : (f : List ℕ) (n p : ℕ) → ((number_in (verdict_of f) ≡ n) × (place_in (verdict_of f) ≡ p)) ↔ Answered (checks f) n p
answer_is f = (told f).answer

-- THEOREM: a file is accepted exactly where it obeys.
pub accepted_is : (f : List ℕ) → (number_in (verdict_of f) ≡ 0) ↔ Obeys f
accepted_is f =
    let zero_is = number_is f 0 in (
      λ e.
          let h = zero_is.0 e in
          record {
            least = h.0.0;
            most = h.0.1;
            checksum = h.1.0;
            file_type = h.1.1.0;
            structure_version = h.1.1.1.0;
            layout = h.1.1.1.1.0;
            fields = h.1.1.1.1.1.0;
            agreement = h.1.1.1.1.1.1.0;
            targets = h.1.1.1.1.1.1.1.0;
            returns = h.1.1.1.1.1.1.1.1.0;
          },
      λ o. zero_is.1 ((o.least, o.most), (o.checksum, (o.file_type, (o.structure_version, (o.layout, (o.fields, (o.agreement, (o.targets, (o.returns, refl))))))))),
    )

-- THEOREM: the number of a mark's reason and its place are those answered.
pub refused_answered : (f : List ℕ) (m : Mark) → judged_of f ≡ Err m → Answered (checks f) (number_of m.reason) m.place
refused_answered f m e =
    (answer_is f (number_of m.reason) m.place).0 (ap (λ (v : Judged). number_in (shown_of v)) e, ap (λ (v : Judged). place_in (shown_of v)) e)
