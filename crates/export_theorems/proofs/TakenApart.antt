-- THEOREM: number, file and place come back from what each exported function returns, for every file and every question. The place is small
-- enough for its four bytes (crate places), and every number of the paper for its one.
use Prim.Native.Nat.{ℕ, ◌<◌}
use native.Mathlib.Omega.{arith}
use mathlib.Core.Bool.{Bool, true, false, cond}
use mathlib.Core.List.{List}
use Rattle.verdict.specs.declared.Reason.TheVariants.{Room}
use Rattle.verdict.specs.Verdicts.{Verdict}
use Rattle.std.specs.Prelude.{Ok, Err}
use Rattle.verdict.specs.Verdicts.{PairVerdict}
use Rattle.verdict.specs.Reasons.{number_of, number_in, place_in, pair_number_in, pair_place_in, pair_file_in}
use Rattle.verdict.specs.Answers.{Answer, answered, refused, answer_place}
use Rattle.x1_verdict.specs.Facts as geography
use Rattle.x1_questions.specs.Results.{TrackAnswer}
use Rattle.x1_questions.specs.Results.{PointAnswer}
use Rattle.x1_questions.specs.Results.{CoordinateAnswer}
use Rattle.x1_questions.specs.Answers.{header_answer, track_answer, point_answer, coordinate_answer}
use Rattle.x1_questions.specs.Questions.{header_of, track_of, point_of, of_both, point_coordinate_of, coordinate_asked}
use Rattle.x1_degrees.specs.Questions.{with_degrees, degrees_asked, point_degrees_of}
use Rattle.x2_verdict.specs.Facts as file
use Rattle.x2_verdict.specs.Answers.{named_header_answer, record_answer}
use Rattle.x2_verdict.specs.Questions.{named_header_of, record_of}
use Rattle.pair.specs.Pair.{pair_of}
use Rattle.route_lister.specs.Answered.{routes_answer}
use Rattle.route_question.specs.Routes.{routes_asked}
use Rattle.places.specs.Places.{place_over}
use Rattle.places.proofs.X1.{x1_place_by}
use Rattle.places.proofs.X2.{x2_place}
use Rattle.places.proofs.Pair.{pair_place}
use Rattle.places.proofs.Questions.{header1_place, header2_place, track_place, point_place_lem, coordinate_place, record_place, routes_place}
use Rattle.c_values.specs.Words.{over_byte, answer_word, value_words}
use Rattle.c_values.specs.Degrees.{degrees_laid}
use Rattle.c_values.specs.Shown.{short, words_shown, verdict_shown, pair_shown}
use Rattle.export_theorems.specs.TakenApart.{TakenApart, AnswerParts}
use Rattle.c_values.proofs.Numbers.{number_back, file_back, place-back, number_fits, file_fits}

word_parts : (number file place : ℕ) → number < over_byte → file < over_byte → place < place_over → TakenApart (answer_word number file place) number file place
word_parts number file place n f p = record {
  number_is = number_back number file place n f (omega arith);
  file_is = file_back number file place n f (omega arith);
  place_is = place-back number file place n f (omega arith);
}

-- ---- the verdicts

pub verdict_parts : (v : Verdict) → place_in v < place_over → TakenApart (verdict_shown v) (number_in v) 0 (place_in v)
verdict_parts (Ok tt) h = word_parts 0 0 0 (omega arith) (omega arith) h
verdict_parts (Err t) h = word_parts (number_of t.reason) 0 t.place (number_fits t.reason) (omega arith) h

-- of the version 1 reader, and of the one that knows both
pub x1_parts : (newest : ℕ) (f : List ℕ) → TakenApart (verdict_shown (geography.verdict_by newest f)) (number_in (geography.verdict_by newest f)) 0 (place_in (geography.verdict_by newest f))
x1_parts newest f = verdict_parts (geography.verdict_by newest f) (x1_place_by newest f)

pub x2_parts : (f : List ℕ) → TakenApart (verdict_shown (file.verdict_of f)) (number_in (file.verdict_of f)) 0 (place_in (file.verdict_of f))
x2_parts f = verdict_parts (file.verdict_of f) (x2_place f)

pub pair_parts : (f g : List ℕ) → TakenApart (pair_shown (pair_of f g)) (pair_number_in (pair_of f g)) (pair_file_in (pair_of f g)) (pair_place_in (pair_of f g))
pair_parts f g = by_case (pair_of f g) (pair_place f g)
  where
    by_case : (v : PairVerdict) → pair_place_in v < place_over → TakenApart (pair_shown v) (pair_number_in v) (pair_file_in v) (pair_place_in v)
    by_case (Ok tt) h = word_parts 0 0 0 (omega arith) (omega arith) h
    by_case (Err p) h = word_parts (number_of p.fault.reason) _ p.fault.place (number_fits p.fault.reason) (file_fits p.file) h

-- ---- the questions: an answer with values has the place 0

answer_parts : (a : Answer) (out : List ℕ) → answer_place a < place_over → AnswerParts a out
unfolding words_shown
answer_parts (answered values) out h = by_room (short (value_words values) out)
  where
    by_room : (t : Bool) → TakenApart (cond t (answer_word (number_of Room) 0 0) (answer_word 0 0 0)) (cond t (number_of Room) 0) 0 0
    by_room true = word_parts (number_of Room) 0 0 (omega arith) (omega arith) (omega arith)
    by_room false = word_parts 0 0 0 (omega arith) (omega arith) (omega arith)
answer_parts (refused n t) out h = word_parts (number_of t.reason) 0 t.place (number_fits t.reason) (omega arith) h

-- the coordinate of a point has the place of the point or of its track
both_below : (p : PointAnswer) (t : TrackAnswer) → answer_place (point_answer p) < place_over → answer_place (track_answer t) < place_over → answer_place (coordinate_answer (of_both p t)) < place_over
both_below (Err u) t h k = h
both_below (Ok p) (Ok t) h k = h
both_below (Ok p) (Err u) h k = k

-- degrees have the place of the coordinate
degrees_below : (a : CoordinateAnswer) → answer_place (coordinate_answer a) < place_over → answer_place (degrees_laid (with_degrees a)) < place_over
degrees_below (Ok c) h = h
degrees_below (Err t) h = h

module _ (out f : List ℕ) where
  pub header1_parts : AnswerParts (header_answer (header_of f)) out
  header1_parts = answer_parts (header_answer (header_of f)) out (header1_place f)

  pub header2_parts : AnswerParts (named_header_answer (named_header_of f)) out
  header2_parts = answer_parts (named_header_answer (named_header_of f)) out (header2_place f)

  pub track_parts : (i : ℕ) → AnswerParts (track_answer (track_of f i)) out
  track_parts i = answer_parts (track_answer (track_of f i)) out (track_place f i)

  pub point_parts : (i j : ℕ) → AnswerParts (point_answer (point_of f i j)) out
  point_parts i j = answer_parts (point_answer (point_of f i j)) out (point_place_lem f i j)

  pub coordinate_parts : (number x : ℕ) → AnswerParts (coordinate_answer (coordinate_asked f number x)) out
  coordinate_parts number x = answer_parts (coordinate_answer (coordinate_asked f number x)) out (coordinate_place f number x)

  pub degrees_parts : (number x : ℕ) → AnswerParts (degrees_laid (degrees_asked f number x)) out
  unfolding degrees_asked
  degrees_parts number x = answer_parts (degrees_laid (degrees_asked f number x)) out (degrees_below (coordinate_asked f number x) (coordinate_place f number x))

  pub point_degrees_parts : (i j : ℕ) → AnswerParts (degrees_laid (point_degrees_of f i j)) out
  unfolding point_degrees_of point_coordinate_of
  point_degrees_parts i j =
      answer_parts (degrees_laid (point_degrees_of f i j)) out
      (degrees_below (point_coordinate_of f i j) (both_below (point_of f i j) (track_of f i) (point_place_lem f i j) (track_place f i)))

  pub record_parts : (x : ℕ) → AnswerParts (record_answer (record_of f x)) out
  record_parts x = answer_parts (record_answer (record_of f x)) out (record_place f x)

  pub routes_parts : (start limit budget room : ℕ) → AnswerParts (routes_answer (routes_asked f start limit budget room)) out
  routes_parts start limit budget room = answer_parts (routes_answer (routes_asked f start limit budget room)) out (routes_place f start limit budget room)
