-- THEOREM: what each question on an X.1 file answers, for every input: the file's own fault, or what the question's own checks say.
use Prim.Native.Nat.{ℕ, ◌≤◌, ◌<◌}
use mathlib.Core.Path.{◌≡◌, refl, sym, ap, subst, ◌∙◌}
use mathlib.Core.Bool.{Bool, true, false, cond}
use mathlib.Core.Logic.{⊎_elim, ◌↔◌}
use mathlib.Core.List.{List, [], ◌∷◌}
use lib.Dec.{ltb}
use native.Mathlib.Omega.{arith}
use borrow.Author.Tests.{ltb-true, ltb-false}
use Rattle.verdict.specs.declared.Reason.TheVariants as reason
use Rattle.verdict.specs.Answers.{answered, refused, answer_number, answer_place, refusal}
use Rattle.verdict.specs.Order.{Check, check, Asked}
use Rattle.verdict.proofs.Orders.{le-or-lt}
use Rattle.verdict.proofs.Questions.{asked_is, no_fault, AnswerIs, all_passed, passed, failed}
use Rattle.envelope.specs.Header.{header_in, header_values}
use Rattle.x1_records.proofs.Whole.{size_positive}
use Rattle.x1_records.specs.Tracks.{track_at, point_at, points_in}
use Rattle.x1_layout.specs.Layout.{count_of, first_of, last_of}
use Rattle.x1_verdict.specs.Facts.{verdict_of}
use Rattle.x1_obeys.specs.Obeys.{structure_of, size_of, entry_place, point_place, Obeys}
use Rattle.x1_lookup.specs.Lookup.{TrackNumbered, number_at, find_track}
use Rattle.std.specs.Prelude.{Option, Some, None}
use Rattle.x1_lookup.proofs.Lookup.{verdict_obeys, absent_iff, found_number, found_iff}
use Rattle.x1_questions.specs.Answers.{header_answer, track_values, track_answer, point_values, point_answer, coordinate_values, coordinate_answer}
use Rattle.x1_theorems.specs.Asked.{PointNamed, PositionOn, header_checks, track_checks, point_checks, coordinate_checks}
use Rattle.x1_questions.specs.Questions.{header_of, track_in, track_of, point_of, on_found, coordinate_asked}
use Rattle.x1_questions.specs.Stretch.{end_position_of}
use Rattle.std.specs.Prelude.{Ok, Err}
use Rattle.x1_questions.specs.Results.{TrackAnswer}
use Rattle.x1_questions.specs.Results.{PointAnswer}
use Rattle.x1_questions.specs.Results.{CoordinateAnswer}
use Rattle.x1_questions.proofs.Stretches.{track_obeys, named_iff}
use Rattle.x1_theorems.proofs.Coordinates.{coordinate_nearest, position_refused, track_refused}

module _ (f : List ℕ) where
  -- ---- the header

  -- THEOREM: the file's own fault, and no other.
  pub header_asked : (n p : ℕ) → ((answer_number (header_answer (header_of f)) ≡ n) × (answer_place (header_answer (header_of f)) ≡ p)) ↔ Asked (verdict_of f) header_checks n p
  unfolding header_of
  header_asked n p =
      asked_is Err header_answer (verdict_of f) (Ok (header_in f)) header_checks (λ t. (refl, refl))
      (λ e. (all_passed (header_values (header_in f))).exactly) n p

  -- ---- track i

  -- the answer in an accepted file, by what the test says
  abbrev track_by : ℕ → Bool → TrackAnswer
  track_by i t = cond t (Ok (track_at f (size_of f) (entry_place i))) (Err (refusal reason.Question))

  track_own : (i : ℕ) (t : Bool) → ltb i (count_of f) ≡ t → AnswerIs (track_answer (track_by i t)) (track_checks f i)
  track_own i true e =
      let values = track_values (track_at f (size_of f) (entry_place i)) in
      passed (i < count_of f) [] 13 (answered values) (ltb-true i (count_of f) e) (λ z. omega arith) (all_passed values)
  track_own i false e = failed (i < count_of f) [] reason.Question 11 (λ h. let g = ltb-false i (count_of f) e in omega arith)

  -- THEOREM: the file's own fault, then 13 exactly where the file has no such track.
  pub track_asked : (i n p : ℕ) → ((answer_number (track_answer (track_of f i)) ≡ n) × (answer_place (track_answer (track_of f i)) ≡ p)) ↔ Asked (verdict_of f) (track_checks f i) n p
  unfolding track_of
  track_asked i n p = asked_is Err track_answer (verdict_of f) (track_in f i) (track_checks f i) (λ t. (refl, refl)) (λ e. (track_own i (ltb i (count_of f)) refl).exactly) n p

  -- ---- point j of track i

  -- how many points track i has
  abbrev points : ℕ → ℕ
  points i = points_in (size_of f) (first_of f (entry_place i)) (last_of f (entry_place i))

  -- the answer in an accepted file, by what the two tests say
  abbrev point_by : ℕ → ℕ → Bool → Bool → PointAnswer
  point_by i j t u =
      cond t (cond u (Ok (point_at f (size_of f) (point_place f (size_of f) (entry_place i) j))) (Err (refusal reason.Question))) (Err (refusal reason.Question))

  module _ (o : Obeys f) (i j : ℕ) where
    -- point j of a track stands no further than its last point exactly where it is counted
    counted : i < count_of f → (j < points i) ↔ (point_place f (size_of f) (entry_place i) j ≤ last_of f (entry_place i))
    counted h = named_iff f (size_of f) (entry_place i) (size_positive (structure_of f)) (track_obeys f o i h) j

    point_own : (t u : Bool) → ltb i (count_of f) ≡ t → ltb j (points i) ≡ u → AnswerIs (point_answer (point_by i j t u)) (point_checks f i j)
    point_own false u e q = failed (PointNamed f i j) [] reason.Question 7 (λ h. let g = ltb-false i (count_of f) e in let k = h.track in omega arith)
    point_own true false e q =
        failed (PointNamed f i j) [] reason.Question 7 (λ h. let g = ltb-false j (points i) q in let k = (counted h.track).1 h.point in omega arith)
    point_own true true e q =
        let values = point_values (point_at f (size_of f) (point_place f (size_of f) (entry_place i) j)) in
        let there = ltb-true i (count_of f) e in
        passed (PointNamed f i j) [] 13 (answered values) (record { track = there; point = (counted there).0 (ltb-true j (points i) q) }) (λ z. omega arith) (all_passed values)

  -- THEOREM: the file's own fault, then 13 exactly where the file has no such track or the track no such point.
  pub point_asked : (i j n p : ℕ) → ((answer_number (point_answer (point_of f i j)) ≡ n) × (answer_place (point_answer (point_of f i j)) ≡ p)) ↔ Asked (verdict_of f) (point_checks f i j) n p
  unfolding point_of
  point_asked i j n p =
      asked_is Err point_answer (verdict_of f) (point_by i j (ltb i (count_of f)) (ltb j (points i))) (point_checks f i j) (λ t. (refl, refl))
      (λ e. (point_own ((verdict_obeys f).0 e) i j (ltb i (count_of f)) (ltb j (points i)) refl refl).exactly) n p

  -- ---- the coordinate at position x of the track with a number

  module _ (o : Obeys f) (number x : ℕ) where
    -- the check of the position, which is the last
    abbrev position : List Check
    position = check 12 (PositionOn f number x) (λ p. p ≡ 0) ∷ []

    -- the track at e is found, and numbers strictly rise, so that there is no other
    module _ (e : ℕ) (q : find_track f number ≡ Some e) where
      found : TrackNumbered f number
      found = let w = found_number f number e q in record { track = w.track; in_file = w.in_file; same = ap (number_at f) (sym w.there) ∙ w.same }

      one_entry : (t : TrackNumbered f number) → entry_place t.track ≡ e
      one_entry t =
          let w = (found_iff f o number (entry_place t.track)).1 (record { track = t.track; in_file = t.in_file; there = refl; same = t.same }) in
          let z : Some (entry_place t.track) ≡ Some e = sym w ∙ q in
          cc

      on_track_lem : x ≤ end_position_of f e → AnswerIs (coordinate_answer (coordinate_asked f number x)) (coordinate_checks f number x)
      on_track_lem h =
          let w = coordinate_nearest f o number e q x h in
          let values = coordinate_values w.0 in
          let end = ap (end_position_of f) (one_entry found) in
          rw w.1
          (passed (TrackNumbered f number) position 11 (answered values) found (λ z. omega arith)
          (passed (PositionOn f number x) [] 12 (answered values) (record { found = found; before_end = omega arith }) (λ z. omega arith) (all_passed values)))

      beyond_track : end_position_of f e < x → AnswerIs (coordinate_answer (coordinate_asked f number x)) (coordinate_checks f number x)
      beyond_track h =
          rw ((position_refused f o number e q x).1 h)
          (passed (TrackNumbered f number) position 11 (refused 2 (refusal reason.Position)) found (λ z. omega arith)
          (failed (PositionOn f number x) [] reason.Position 2 (λ g. let end = ap (end_position_of f) (one_entry g.found) in let l = g.before_end in omega arith)))

    coordinate_own : (s : Option ℕ) → find_track f number ≡ s → AnswerIs (coordinate_answer (coordinate_asked f number x)) (coordinate_checks f number x)
    coordinate_own None q =
        let none = (absent_iff f number).0 q in
        rw ((track_refused f o number x).1 none) (failed (TrackNumbered f number) position reason.Track 2 (λ h. none h.track h.in_file h.same))
    coordinate_own (Some e) q = ⊎_elim (λ (h : x ≤ end_position_of f e). on_track_lem e q h) (λ (h : end_position_of f e < x). beyond_track e q h) (le-or-lt x (end_position_of f e))

  -- THEOREM: the file's own fault, then 11 exactly where no track has the number, then 12 exactly where the position is beyond its end.
  pub coordinate_asked_lem : (number x n p : ℕ)
      → ((answer_number (coordinate_answer (coordinate_asked f number x)) ≡ n) × (answer_place (coordinate_answer (coordinate_asked f number x)) ≡ p)) ↔ Asked (verdict_of f) (coordinate_checks f number x) n p
  unfolding coordinate_asked
  coordinate_asked_lem number x n p =
      let a = on_found f (size_of f) x (find_track f number) in
      asked_is Err coordinate_answer (verdict_of f) a (coordinate_checks f number x) (λ t. (refl, refl))
      (λ e.
      (subst (λ (r : CoordinateAnswer). AnswerIs (coordinate_answer r) (coordinate_checks f number x)) (no_fault Err (verdict_of f) a e)
      (coordinate_own ((verdict_obeys f).0 e) number x (find_track f number) refl)).exactly) n p
