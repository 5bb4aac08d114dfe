-- THEOREMS (02, ticket 11): every version 1 byte string has the verdict and the answers that it had, and reports no height. The version 1
-- reader answers every file as it was answered before; to the new file 4 at 1, and to every other file what the reader answers that users
-- have.
use Prim.Native.Nat.{ℕ}
use mathlib.Core.Path.{◌≡◌, refl, sym, ap, ◌∙◌}
use mathlib.Core.Bool.{Bool, true, false, cond}
use mathlib.Core.Logic.{inl, inr, ◌↔◌}
use mathlib.Core.List.{List, ◌∷◌}
use lib.Dec.{ltb}
use native.Mathlib.Omega.{arith}
use Rattle.verdict.specs.declared.Mark.{Mark}
use Rattle.verdict.specs.declared.Reason.TheVariants as reason
use Rattle.verdict.specs.declared.Fault.{Fault}
use Rattle.std.specs.Prelude.{Ok, Err}
use Rattle.verdict.specs.Verdicts.{Verdict}
use Rattle.verdict.specs.Facts.{Claim, test, Holds, Fact, fact, first_fault}
use Rattle.verdict.specs.Reasons.{fault_of, shown_of, number_in, place_in}
use Rattle.verdict.specs.Answers.{refusal, after_verdict}
use Rattle.verdict.proofs.Facts.{Agrees, agrees}
use Rattle.envelope.specs.Header.{header_in}
use Rattle.x1_records.specs.Places.{point_size}
use Rattle.x1_records.specs.Tracks.{track_at, height_at, point_at, points_in}
use Rattle.x1_layout.specs.Layout.{count_of, first_of, last_of}
use Rattle.x1_verdict.specs.Facts.{sized_facts, facts_by, verdict_by, verdict_of}
use Rattle.x1_obeys.specs.Obeys.{Between, structure_of, size_of, entry_place, point_place}
use Rattle.x1_obeys.proofs.Obeys.{least_iff}
use Rattle.x1_lookup.specs.Lookup.{find_track}
use Rattle.x1_questions.specs.Questions.{header_of, track_of, point_in, point_of, on_found, coordinate_asked}
use Rattle.x1_questions.specs.Answers.{point_answer}
use Rattle.x1_theorems.specs.Base.{verdict_was, point_was, point_answer_was, without_height, AsEver, NewFile}
use Rattle.x1_theorems.proofs.Numbers.{same_iff, answered_by}

-- ---- two lists of facts that are answered alike

abbrev verdict_for : List Fact → Verdict
verdict_for fs = shown_of (first_fault fs)

-- LAW: two facts with one fault, one of which holds exactly where the other does, and then what is answered alike.
alike : (c d : Claim) (m n : Mark) (a b : List Fact) → fault_of m ≡ fault_of n → Holds c ↔ Holds d → (Holds c → verdict_for a ≡ verdict_for b) → verdict_for (fact c m ∷ a) ≡ verdict_for (fact d n ∷ b)
unfolding first_fault
alike c d m n a b e iff rest = go (test c) (test d) (agrees c) (agrees d)
  where
    go : (t u : Bool) → Agrees t (Holds c) → Agrees u (Holds d) → shown_of (cond t (first_fault a) (Err m)) ≡ shown_of (cond u (first_fault b) (Err n))
    go true true x y = rest x
    go true false x y = absurd (y (iff.0 x))
    go false true x y = absurd (x (iff.1 y))
    go false false x y = ap Err e

-- LAW: a fact that holds changes nothing.
held : (c : Claim) (m : Mark) (a : List Fact) → Holds c → verdict_for (fact c m ∷ a) ≡ verdict_for a
unfolding first_fault
held c m a h = go (test c) (agrees c)
  where
    go : (t : Bool) → Agrees t (Holds c) → shown_of (cond t (first_fault a) (Err m)) ≡ verdict_for a
    go true x = refl
    go false x = absurd (x h)

-- ---- the version 1 reader

-- THEOREM: the version 1 reader answers every file as it was answered before.
pub version_1_was : (f : List ℕ) → verdict_by 1 f ≡ verdict_was f
unfolding facts_by
version_1_was f =
    alike _ _ _ _ _ _ refl same_iff (λ long.
    alike _ _ _ _ _ _ refl same_iff (λ _.
    alike _ _ _ _ _ _ refl same_iff (λ _.
    alike _ _ _ _ _ _ refl (λ h. omega arith, λ e. (omega arith, omega arith)) (λ one.
    held _ _ _ ((least_iff f long).1 (λ h. absurd (omega arith)))
    ∙ ap (λ (v : ℕ). verdict_for (sized_facts f (point_size v))) (first_version one)))))
  where
    first_version : Between 1 1 (structure_of f) → structure_of f ≡ 1
    first_version h = omega arith

-- THEOREM: to the new file it answers 4 at 1.
pub new_refused : (f : List ℕ) → NewFile f → (number_in (verdict_by 1 f) ≡ 4) × (place_in (verdict_by 1 f) ≡ 1)
new_refused f w =
    let v = w.version in
    (answered_by 1 f 4 1).1 (inl (w.length_passes, inl (w.checksum, inl (w.file_type, inr (λ h. omega arith, (refl, refl))))))

-- THEOREM: to every other file it answers what the reader answers that users have.
pub others_alike : (f : List ℕ) → (NewFile f → ⊥) → verdict_by 1 f ≡ verdict_of f
unfolding facts_by
others_alike f other =
    alike _ _ _ _ _ _ refl same_iff (λ long.
    alike _ _ _ _ _ _ refl same_iff (λ sum.
    alike _ _ _ _ _ _ refl same_iff (λ type.
    alike _ _ _ _ _ _ refl (
      λ h. omega arith,
      λ h.
          let no : structure_of f ≡ 2 → ⊥ = λ v. other (record { length_passes = long; checksum = sum; file_type = type; version = v }) in
          omega arith,
    ) (λ _. refl))))

-- ---- version 1 files

module _ (f : List ℕ) (first : structure_of f ≡ 1) where
  verdict_was_lem : verdict_of f ≡ verdict_was f
  verdict_was_lem = sym (others_alike f (λ w. let v = w.version in omega arith)) ∙ version_1_was f

  size_was : size_of f ≡ point_size 1
  size_was = ap point_size first

  -- an answer by the verdict and the size that were
  answer_was : {A : Type 0} (say : Fault → A) (a : ℕ → A) → after_verdict say (verdict_of f) (a (size_of f)) ≡ after_verdict say (verdict_was f) (a (point_size 1))
  answer_was {A} say a = ap (λ (v : Verdict). after_verdict say v (a (size_of f))) verdict_was_lem ∙ ap (λ (s : ℕ). after_verdict say (verdict_was f) (a s)) size_was

  point_read : (i j : ℕ) → point_of f i j ≡ point_was f i j
  unfolding point_of
  point_read i j = answer_was Err (λ s. cond (ltb i (count_of f)) (point_in f s (entry_place i) j) (Err (refusal reason.Question)))

  -- a point of the size that was has no height
  no_height : (p : ℕ) → point_answer (Ok (point_at f (point_size 1) p)) ≡ without_height (point_answer_was (Ok (point_at f (point_size 1) p)))
  unfolding point_at height_at point_size
  no_height p = refl

  point_without : (i j : ℕ) → point_answer (point_was f i j) ≡ without_height (point_answer_was (point_was f i j))
  point_without i j = by_verdict (verdict_was f)
    where
      by_point : (t : Bool) → point_answer (cond t (Ok (point_at f (point_size 1) (point_place f (point_size 1) (entry_place i) j))) (Err (refusal reason.Question)))
          ≡ without_height (point_answer_was (cond t (Ok (point_at f (point_size 1) (point_place f (point_size 1) (entry_place i) j))) (Err (refusal reason.Question))))
      by_point true = no_height (point_place f (point_size 1) (entry_place i) j)
      by_point false = refl

      by_track : (t : Bool) → point_answer (cond t (point_in f (point_size 1) (entry_place i) j) (Err (refusal reason.Question)))
          ≡ without_height (point_answer_was (cond t (point_in f (point_size 1) (entry_place i) j) (Err (refusal reason.Question))))
      by_track true = by_point (ltb j (points_in (point_size 1) (first_of f (entry_place i)) (last_of f (entry_place i))))
      by_track false = refl

      by_verdict : (v : Verdict) → point_answer (after_verdict Err v (cond (ltb i (count_of f)) (point_in f (point_size 1) (entry_place i) j) (Err (refusal reason.Question))))
          ≡ without_height (point_answer_was (after_verdict Err v (cond (ltb i (count_of f)) (point_in f (point_size 1) (entry_place i) j) (Err (refusal reason.Question)))))
      by_verdict (Ok tt) = by_track (ltb i (count_of f))
      by_verdict (Err t) = refl

  -- THEOREM: it reads as ever.
  pub as_ever : AsEver f
  unfolding header_of track_of coordinate_asked
  as_ever = record {
    verdict = verdict_was_lem;
    header = answer_was Err (λ s. Ok (header_in f));
    track = λ i. answer_was Err (λ s. cond (ltb i (count_of f)) (Ok (track_at f s (entry_place i))) (Err (refusal reason.Question)));
    point = λ i j. ap point_answer (point_read i j) ∙ point_without i j;
    coordinate = λ number x. answer_was Err (λ s. on_found f s x (find_track f number));
  }
