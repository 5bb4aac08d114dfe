-- THEOREM: the place of every answer to a question is below the bound: it is that of the file's own fault, or 0.
use Prim.Native.Nat.{ℕ, ◌<◌}
use mathlib.Core.Path.{◌≡◌, refl}
use mathlib.Core.Bool.{Bool, true, false, cond}
use mathlib.Core.List.{List}
use lib.Dec.{ltb, leb}
use native.Mathlib.Omega.{arith}
use Rattle.verdict.specs.declared.Reason.TheVariants as reason
use Rattle.verdict.specs.declared.Fault.{Fault}
use Rattle.verdict.specs.Verdicts.{Verdict}
use Rattle.std.specs.Prelude.{Ok, Err}
use Rattle.verdict.specs.Facts.{test}
use Rattle.verdict.specs.Reasons.{place_in}
use Rattle.verdict.specs.Answers.{Answer, answer_place, refusal, after_verdict}
use Rattle.envelope.specs.Header.{header_in}
use Rattle.x1_records.specs.Tracks.{track_at, point_at, points_in}
use Rattle.x1_layout.specs.Layout.{size_of, count_of, first_of, last_of}
use Rattle.x1_obeys.specs.Obeys.{entry_place, point_place}
use Rattle.x1_verdict.specs.Facts as geography
use Rattle.x1_lookup.specs.Lookup.{find_track}
use Rattle.std.specs.Prelude.{Option, Some, None}
use Rattle.x1_questions.specs.Stretch.{end_position_of, stretch_of}
use Rattle.x1_questions.specs.Answers.{header_answer, track_answer, point_answer, coordinate_answer}
use Rattle.x1_questions.specs.Questions.{header_of, track_in, track_of, point_in, point_of, on_stretch, on_track, on_found, coordinate_asked}
use Rattle.x2_layout.specs.Layout.{layout_of}
use Rattle.x2_layout.specs.Records.{is_start}
use Rattle.x2_verdict.specs.Facts as application
use Rattle.x2_verdict.specs.Answers.{named_header_answer, record_answer}
use Rattle.x2_verdict.specs.Questions.{named_header_in, named_header_of, record_if, record_of}
use Rattle.route_walks.specs.declared.Tally.{Tally}
use Rattle.std.specs.Prelude.{Err}
use Rattle.route_lister.specs.Answered.{judged, answer_at, answer_in, routes_answer}
use Rattle.route_question.specs.Routes.{routes_asked}
use Rattle.places.specs.Places.{place_over}
use Rattle.places.proofs.X1.{x1_place}
use Rattle.places.proofs.X2.{x2_place}

-- ---- of any kind of answer, which `shape` makes the one shape: one or the other, and after the file's own fault

module _ {A : Type 0} (shape : A → Answer) where
  if-below : (t : Bool) (a b : A) → answer_place (shape a) < place_over → answer_place (shape b) < place_over → answer_place (shape (cond t a b)) < place_over
  if-below true a b p q = p
  if-below false a b p q = q

  after_below :
      (say : Fault → A) → ((t : Fault) → answer_place (shape (say t)) ≡ t.place) → (v : Verdict) (a : A) → place_in v < place_over → answer_place (shape a) < place_over
      → answer_place (shape (after_verdict say v a)) < place_over
  after_below say same (Ok tt) a p q = q
  after_below say same (Err t) a p q = rw (same t) p

-- ---- X.1

module _ (f : List ℕ) where
  pub header1_place : answer_place (header_answer (header_of f)) < place_over
  unfolding header_of
  header1_place = after_below header_answer Err (λ t. refl) (geography.verdict_of f) (Ok (header_in f)) (x1_place f) (omega arith)

  pub track_place : (i : ℕ) → answer_place (track_answer (track_of f i)) < place_over
  unfolding track_of
  track_place i =
      after_below track_answer Err (λ t. refl) (geography.verdict_of f) (track_in f i) (x1_place f)
      (if-below track_answer (ltb i (count_of f)) (Ok (track_at f (size_of f) (entry_place i))) (Err (refusal reason.Question)) (omega arith) (omega arith))

  point_in_lem : (e j : ℕ) → answer_place (point_answer (point_in f (size_of f) e j)) < place_over
  point_in_lem e j =
      if-below point_answer (ltb j (points_in (size_of f) (first_of f e) (last_of f e))) (Ok (point_at f (size_of f) (point_place f (size_of f) e j))) (Err (refusal reason.Question)) (omega arith) (omega arith)

  pub point_place_lem : (i j : ℕ) → answer_place (point_answer (point_of f i j)) < place_over
  unfolding point_of
  point_place_lem i j =
      let answer = cond (ltb i (count_of f)) (point_in f (size_of f) (entry_place i) j) (Err (refusal reason.Question)) in
      after_below point_answer Err (λ t. refl) (geography.verdict_of f) answer (x1_place f)
      (if-below point_answer (ltb i (count_of f)) (point_in f (size_of f) (entry_place i) j) (Err (refusal reason.Question)) (point_in_lem (entry_place i) j) (omega arith))

  on_stretch_lem : (e x : ℕ) (w : Option ℕ) → answer_place (coordinate_answer (on_stretch f (size_of f) e x w)) < place_over
  on_stretch_lem e x (Some p) = omega arith
  on_stretch_lem e x None = omega arith

  on_found_lem : (x : ℕ) (w : Option ℕ) → answer_place (coordinate_answer (on_found f (size_of f) x w)) < place_over
  unfolding on_track
  on_found_lem x (Some e) =
      if-below coordinate_answer (leb x (end_position_of f e)) (on_stretch f (size_of f) e x (stretch_of f (size_of f) e x)) (Err (refusal reason.Position))
      (on_stretch_lem e x (stretch_of f (size_of f) e x)) (omega arith)
  on_found_lem x None = omega arith

  pub coordinate_place : (number x : ℕ) → answer_place (coordinate_answer (coordinate_asked f number x)) < place_over
  unfolding coordinate_asked
  coordinate_place number x =
      after_below coordinate_answer Err (λ t. refl) (geography.verdict_of f) (on_found f (size_of f) x (find_track f number)) (x1_place f) (on_found_lem x (find_track f number))

-- ---- X.2

record_if_lem : (t : Bool) (f : List ℕ) (x : ℕ) → answer_place (record_answer (record_if t f x)) < place_over
record_if_lem true f x = omega arith
record_if_lem false f x = omega arith

judged_below : (inside steps room : Bool) (t : Tally) → answer_place (routes_answer (judged inside steps room t)) < place_over
unfolding judged
judged_below false steps room t = omega arith
judged_below true true room t = omega arith
judged_below true false true t = omega arith
judged_below true false false t = omega arith

module _ (f : List ℕ) where
  pub header2_place : answer_place (named_header_answer (named_header_of f)) < place_over
  unfolding named_header_of
  header2_place = after_below named_header_answer Err (λ t. refl) (application.verdict_of f) (Ok (named_header_in f)) (x2_place f) (omega arith)

  pub record_place : (x : ℕ) → answer_place (record_answer (record_of f x)) < place_over
  unfolding record_of
  record_place x =
      let starts = test (is_start f (layout_of f) x) in
      after_below record_answer Err (λ t. refl) (application.verdict_of f) (record_if starts f x) (x2_place f) (record_if_lem starts f x)

  pub routes_place : (start limit budget room : ℕ) → answer_place (routes_answer (routes_asked f start limit budget room)) < place_over
  unfolding routes_asked answer_at
  routes_place start limit budget room =
      after_below routes_answer Err (λ t. refl) (application.verdict_of f) (answer_in f (layout_of f) start limit budget room) (x2_place f) (judged_below _ _ _ _)
