-- THEOREM: in the C library every value of an answer fits its four bytes. Only an accepted file is answered of, and its ranges keep the values
-- small. Where a record's field has no range, its number has at most four bytes. The counts of a list of routes are kept small by the budget
-- and the limit.
use Prim.Native.Nat.{ℕ, zero, suc, ◌*◌, ◌≤◌, ◌<◌}
use native.Mathlib.Omega.{arith}
use mathlib.Core.Path.{◌≡◌, refl}
use mathlib.Core.Bool.{Bool, true, false}
use mathlib.Core.List.{List, [], ◌∷◌}
use lib.IntN.{ℤ, pos, negsuc, nat_abs}
use lib.ListN.{length, get_or, replicate}
use lib.Dec.{ltb}
use lib.Ieee.{binary64, to_bits}
use lib.Ieee.Bits.{to_bits-lt}
use borrow.Author.Tests.{ltb-false}
use Rattle.octets.specs.Octets.{half_of}
use Rattle.verdict.specs.Verdicts.{Verdict}
use Rattle.std.specs.Prelude.{Ok, Err}
use Rattle.verdict.specs.Answers.{after_verdict}
use Rattle.x1_questions.specs.Results.{HeaderAnswer}
use Rattle.x1_questions.specs.Results.{TrackAnswer}
use Rattle.x1_questions.specs.Results.{PointAnswer}
use Rattle.std.specs.Prelude.{Option, Some, None}
use Rattle.x1_records.specs.Tracks.{height_values}
use Rattle.x1_questions.specs.declared.answers.Coordinate.{Coordinate}
use Rattle.x1_questions.specs.Results.{CoordinateAnswer}
use Rattle.x1_questions.specs.Answers.{header_answer, track_answer, point_answer, coordinate_answer}
use Rattle.x1_questions.specs.Coordinate.{CoordinateRange}
use Rattle.x1_questions.specs.Questions.{header_of, track_of, point_of, point_coordinate_of, coordinate_asked}
use Rattle.x1_questions.proofs.Ranges.{coordinate_range, point_coordinate_range}
use Rattle.degrees.specs.Degrees.{degrees_of}
use Rattle.degrees_theorems.proofs.Numbers.{degrees_fit}
use Rattle.x1_degrees.specs.Questions.{surveyed_at, with_degrees, degrees_asked, point_degrees_of}
use Rattle.x1_theorems.specs.Heights.{HeightRange}
use Rattle.x1_theorems.proofs.Heights.{height_range}
use Rattle.x1_theorems.proofs.Ranges.{header_range, track_range, point_range}
use Rattle.x2_verdict.specs.Results.{NamedHeaderAnswer}
use Rattle.x2_verdict.specs.Results.{RecordAnswer}
use Rattle.x2_verdict.specs.Facts.{verdict_of}
use Rattle.x2_verdict.specs.Answers.{named_header_answer, value_count, fields_of, filled, record_answer}
use Rattle.x2_verdict.specs.Questions.{named_header_of, record_of}
use Rattle.x2_theorems.proofs.Ranges.{named_range, four_bytes, AllBelow, record_below}
use Rattle.route_graph.specs.declared.Object.{Object}
use Rattle.route_walks.specs.declared.Tally.{Tally}
use Rattle.route_walks.specs.Walks.{all_walks}
use Rattle.std.specs.Prelude.{Err}
use Rattle.route_lister.specs.Answered.{RoutesAnswer, limit_of, in_range, tally_of, judged, answer_at, tally_values, routes_answer}
use Rattle.route_lister.proofs.Whole.{in_range_iff}
use Rattle.route_question.specs.Routes.{routes_asked}
use Rattle.c_values.specs.Words.{over_word, value_size}
use Rattle.c_values.specs.Degrees.{surveyed_values, degrees_laid}
use Rattle.export_theorems.specs.Fit.{header1_signed, header2_signed, track_signed, point_signed, coordinate_signed, degrees_signed, record_signed, routes_signed, Fits, AllFit, AnswerFits}
use Rattle.export_theorems.proofs.Counts.{fewer_routes, few_words}

-- ---- within plus or minus so much

near : (z : ℤ) (m : ℕ) → nat_abs z ≤ m → m < half_of value_size → Fits true z
near (pos n) m h l = omega arith
near (negsuc n) m h l = omega arith

-- ---- a coordinate in its range, and its degrees

latitude_fits : (c : Coordinate) → CoordinateRange c → Fits true c.latitude
latitude_fits c r = near c.latitude 324000000 r.latitude (omega arith)

longitude_fits : (c : Coordinate) → CoordinateRange c → Fits true c.longitude
longitude_fits c r = near c.longitude 648000000 r.longitude (omega arith)

-- the bits of degrees are a number of eight bytes, so that its high half is one of four
bits_below : (z : ℤ) → to_bits binary64 (degrees_of z) < over_word * over_word
bits_below z = to_bits-lt binary64 (degrees_of z) (degrees_fit z)

surveyed_fits : (c : Coordinate) → CoordinateRange c → AllFit degrees_signed (surveyed_values (surveyed_at c))
surveyed_fits c r =
    let latitude = bits_below c.latitude in
    let longitude = bits_below c.longitude in
    (latitude_fits c r, (longitude_fits c r, (omega arith, (omega arith, (omega arith, (omega arith, tt))))))

degrees_fitting : (a : CoordinateAnswer) → ((c : Coordinate) → a ≡ Ok c → CoordinateRange c) → AnswerFits degrees_signed (degrees_laid (with_degrees a))
degrees_fitting (Ok c) range = surveyed_fits c (range c refl)
degrees_fitting (Err t) range = tt

-- ---- a record's values, with zeros after the last one

filled_fits : (n : ℕ) (l : List ℕ) → AllBelow four_bytes l → AllFit (replicate n false) (filled n l)
filled_fits zero l h = tt
filled_fits (suc n) [] h = (omega arith, filled_fits n [] tt)
filled_fits (suc n) (x ∷ l) h = (h.0, filled_fits n l h.1)

-- ---- the counts of a list of routes, which is made in range and within the budget only

judged_fits : (range steps room : Bool) (t : Tally) → (range ≡ true → steps ≡ false → AllFit routes_signed (tally_values t)) → AnswerFits routes_signed (routes_answer (judged range steps room t))
unfolding judged
judged_fits false steps room t h = tt
judged_fits true true room t h = tt
judged_fits true false true t h = tt
judged_fits true false false t h = h refl refl

answer_fits : (v : ℕ → Object) (asked : Bool) (start limit budget room : ℕ) → AnswerFits routes_signed (routes_answer (answer_at v asked start limit budget room))
unfolding answer_at tally_of
answer_fits v asked start limit budget room = judged_fits (in_range asked limit budget) (ltb budget (length (all_walks v start limit))) _ (tally_of v start limit) small
  where
    small : in_range asked limit budget ≡ true → ltb budget (length (all_walks v start limit)) ≡ false → AllFit routes_signed (tally_values (tally_of v start limit))
    small e g =
        let bounds = ((in_range_iff asked limit budget).0 e).bounds in
        let budget_most = bounds.few in
        let walks = ltb-false budget (length (all_walks v start limit)) g in
        let routes = fewer_routes v (all_walks v start limit) in
        let words = few_words v start limit bounds.most in
        (omega arith, (omega arith, (omega arith, tt)))

after_fits : (v : Verdict) (a : RoutesAnswer) → AnswerFits routes_signed (routes_answer a) → AnswerFits routes_signed (routes_answer (after_verdict Err v a))
after_fits (Ok tt) a h = h
after_fits (Err t) a h = tt

-- ---- X.1

module _ (f : List ℕ) where
  pub header1_fits : AnswerFits header1_signed (header_answer (header_of f))
  header1_fits = by_answer (header_of f) refl
    where
      by_answer : (a : HeaderAnswer) → header_of f ≡ a → AnswerFits header1_signed (header_answer a)
      by_answer (Ok h) e =
          let r = header_range f h e in
          let structure = r.structure in
          let version = r.version in
          let station = r.station in
          (omega arith, (omega arith, (omega arith, tt)))
      by_answer (Err t) e = tt

  pub track_fits : (i : ℕ) → AnswerFits track_signed (track_answer (track_of f i))
  track_fits i = by_answer (track_of f i) refl
    where
      by_answer : (a : TrackAnswer) → track_of f i ≡ a → AnswerFits track_signed (track_answer a)
      by_answer (Ok t) e =
          let r = track_range f i t e in
          let number = r.number in
          let property = r.property in
          let start = r.start_position in
          let start_latitude = near t.start_latitude 324000000 r.start_latitude (omega arith) in
          let start_longitude = near t.start_longitude 648000000 r.start_longitude (omega arith) in
          let end = r.end_position in
          let end_latitude = near t.end_latitude 324000000 r.end_latitude (omega arith) in
          let end_longitude = near t.end_longitude 648000000 r.end_longitude (omega arith) in
          let first = r.first in
          let last = r.last in
          let points = r.points in
          (omega arith, (omega arith, (omega arith, (start_latitude, (start_longitude, (omega arith, (end_latitude, (end_longitude, (omega arith, (omega arith, (omega arith, tt)))))))))))
      by_answer (Err t) e = tt

  -- the file's bytes are below 256, as those of every slice are
  pub point_fits : ((k : ℕ) → get_or f k 0 < 256) → (i j : ℕ) → AnswerFits point_signed (point_answer (point_of f i j))
  point_fits bytes i j = by_answer (point_of f i j) refl
    where
      height_fits : (h : Option ℤ) → HeightRange h → AllFit (false ∷ true ∷ []) (height_values h)
      height_fits (Some z) r = (omega arith, (near z 32768 r (omega arith), tt))
      height_fits None r = (omega arith, (omega arith, tt))

      by_answer : (a : PointAnswer) → point_of f i j ≡ a → AnswerFits point_signed (point_answer a)
      by_answer (Ok p) e =
          let r = point_range f i j p e in
          let position = r.position in
          let latitude = near p.latitude_increment 648000000 r.latitude_increment (omega arith) in
          let longitude = near p.longitude_increment 1296000000 r.longitude_increment (omega arith) in
          let heading = near p.heading 31416 r.heading (omega arith) in
          let flag = r.near in
          (omega arith, (latitude, (longitude, (heading, (omega arith, height_fits p.height (height_range f i j p e bytes))))))
      by_answer (Err t) e = tt

  pub coordinate_fits : (number x : ℕ) → AnswerFits coordinate_signed (coordinate_answer (coordinate_asked f number x))
  coordinate_fits number x = by_answer (coordinate_asked f number x) refl
    where
      by_answer : (a : CoordinateAnswer) → coordinate_asked f number x ≡ a → AnswerFits coordinate_signed (coordinate_answer a)
      by_answer (Ok c) e =
          let r = coordinate_range f number x c e in
          (latitude_fits c r, (longitude_fits c r, tt))
      by_answer (Err t) e = tt

  pub degrees_fits : (number x : ℕ) → AnswerFits degrees_signed (degrees_laid (degrees_asked f number x))
  unfolding degrees_asked
  degrees_fits number x = degrees_fitting (coordinate_asked f number x) (coordinate_range f number x)

  pub point_degrees_fits : (i j : ℕ) → AnswerFits degrees_signed (degrees_laid (point_degrees_of f i j))
  unfolding point_degrees_of
  point_degrees_fits i j = degrees_fitting (point_coordinate_of f i j) (point_coordinate_range f i j)

  -- ---- X.2

  pub header2_fits : AnswerFits header2_signed (named_header_answer (named_header_of f))
  header2_fits = by_answer (named_header_of f) refl
    where
      by_answer : (a : NamedHeaderAnswer) → named_header_of f ≡ a → AnswerFits header2_signed (named_header_answer a)
      by_answer (Ok h) e =
          let r = named_range f h e in
          let structure = r.structure in
          let version = r.version in
          let station = r.station in
          let name = r.name in
          let bytes = r.name_bytes in
          (omega arith, (omega arith, (omega arith, (omega arith, (omega arith, tt)))))
      by_answer (Err t) e = tt

  pub record_fits : ((i : ℕ) → get_or f i 0 < 256) → (x : ℕ) → AnswerFits record_signed (record_answer (record_of f x))
  record_fits bytes x = by_answer (record_of f x) refl
    where
      by_answer : (a : RecordAnswer) → record_of f x ≡ a → AnswerFits record_signed (record_answer a)
      by_answer (Ok r) e = filled_fits value_count (fields_of r) (record_below f bytes x r e)
      by_answer (Err t) e = tt

  pub routes_fits : (start limit budget room : ℕ) → AnswerFits routes_signed (routes_answer (routes_asked f start limit budget room))
  unfolding routes_asked
  routes_fits start limit budget room = after_fits (verdict_of f) _ (answer_fits _ _ start (limit_of limit) budget room)
