-- The questions, one law for each way out of the code: the file's own fault; then, in an accepted file, what each test decides.
use Prim.Native.Nat.{ℕ, ◌+◌, ◌*◌, ◌≤◌, ◌<◌}
use mathlib.Core.Path.{◌≡◌, refl, sym, ap, ◌∙◌}
use mathlib.Core.Bool.{Bool, true, false, cond}
use mathlib.Core.List.{List}
use lib.Dec.{ltb}
use native.Mathlib.Omega.{arith}
use borrow.Author.Tests.{lt-ltb, le-ltb, le-leb, lt-leb}
use Rattle.verdict.specs.declared.Reason.TheVariants as reason
use Rattle.verdict.specs.declared.Fault.{Fault}
use Rattle.verdict.specs.Verdicts.{Verdict}
use Rattle.std.specs.Prelude.{Ok, Err}
use Rattle.verdict.specs.Answers.{refusal}
use Rattle.verdict.proofs.Questions.{fault_is, no_fault}
use Rattle.envelope.specs.declared.Header.{Header}
use Rattle.envelope.specs.Header.{header_in}
use Rattle.envelope.specs.Seal.{most_length}
use Rattle.x1_records.proofs.Whole.{size_positive}
use Rattle.x1_records.specs.Tracks.{track_at, point_at, points_in}
use Rattle.x1_records.specs.declared.Track.{Track}
use Rattle.x1_records.specs.declared.Point.{Point}
use Rattle.x1_layout.specs.Layout.{structure_of, size_of, count_of, first_of, last_of}
use Rattle.x1_verdict.specs.Facts.{verdict_of}
use Rattle.x1_obeys.specs.Obeys.{entry_place, point_place}
use Rattle.x1_lookup.specs.Lookup.{find_track}
use Rattle.std.specs.Prelude.{Option, Some, None}
use Rattle.x1_lookup.proofs.Lookup.{verdict_obeys}
use Rattle.x1_questions.specs.Stretch.{point_coordinate, end_position_of, stretch_of, coordinate_on}
use Rattle.x1_questions.specs.Questions.{header_of, track_in, track_of, point_of, of_both, point_coordinate_of, on_stretch, on_track, on_found, coordinate_asked}
use Rattle.x1_questions.specs.Results.{PointAnswer}
use Rattle.x1_questions.specs.declared.answers.Coordinate.{Coordinate}
use Rattle.x1_questions.specs.Results.{CoordinateAnswer}
use Rattle.x1_questions.specs.declared.Standing.{Standing}
use Rattle.x1_questions.specs.inner.Sought.{sought_in, sought_point}
use Rattle.x1_questions.proofs.Stretches.{track_obeys, named_iff}

-- ---- the file's own fault first

-- THEOREM: each question first gives its file's own fault.
pub file_fault : (f : List ℕ) (t : Fault) → verdict_of f ≡ Err t
    → (header_of f ≡ Err t) × ((i : ℕ) → track_of f i ≡ Err t) × ((i j : ℕ) → point_of f i j ≡ Err t) × ((i j : ℕ) → point_coordinate_of f i j ≡ Err t) × ((number x : ℕ) → coordinate_asked f number x ≡ Err t)
unfolding header_of track_of point_of point_coordinate_of coordinate_asked
file_fault f t g = (
  fault_is Err (verdict_of f) t _ g,
  λ i. fault_is Err (verdict_of f) t _ g,
  λ i j. fault_is Err (verdict_of f) t _ g,
  λ i j. ap (λ (x : PointAnswer). of_both x (track_of f i)) (fault_is Err (verdict_of f) t _ g),
  λ number x. fault_is Err (verdict_of f) t _ g,
)

-- ---- the header: v is the verdict as it was found, h what was read

pub header_there : (f : List ℕ) {v : Verdict} → v ≡ verdict_of f → v ≡ Ok tt → {h : Header} → h ≡ header_in f → Ok h ≡ header_of f
unfolding header_of
header_there f e g q = ap Ok q ∙ sym (no_fault Err (verdict_of f) (Ok (header_in f)) (sym e ∙ g))

-- ---- track i: v is the verdict as it was found, n the count of tracks, at the entry's place, size that of a point, r what was read there

module _ (f : List ℕ) {v : Verdict} (e : v ≡ verdict_of f) (g : v ≡ Ok tt) {n : ℕ} (c : n ≡ count_of f) (i : ℕ) where
  pub track_none : n ≤ i → {t : Fault} → t ≡ refusal reason.Question → Err t ≡ track_of f i
  unfolding track_of
  track_none h q = ap Err q ∙ sym (no_fault Err (verdict_of f) (track_in f i) (sym e ∙ g) ∙ rw (le-ltb i (count_of f) (omega arith)))

  pub track_there : i < n → {at size : ℕ} {r : Track} → at ≡ entry_place i → size ≡ size_of f → r ≡ track_at f size at → Ok r ≡ track_of f i
  unfolding track_of
  track_there h {at} p z q =
      ap Ok (q ∙ ap (λ (s : ℕ). track_at f s at) z ∙ ap (track_at f (size_of f)) p) ∙ sym (no_fault Err (verdict_of f) (track_in f i) (sym e ∙ g) ∙ rw (lt-ltb i (count_of f) (omega arith)))

-- ---- where point j of track i stands: n is the count of tracks, at the entry's place, size that of a point, r what was read there, and m the
-- count of its points

module _ (f : List ℕ) {n : ℕ} (c : n ≡ count_of f) (i j : ℕ) where
  pub sought_no_track : n ≤ i → None ≡ sought_point f i j
  unfolding sought_point
  sought_no_track h = sym (rw (le-ltb i (count_of f) (omega arith)))

  module _ (h : i < n) {at size m : ℕ} {r : Track} (p : at ≡ entry_place i) (z : size ≡ size_of f) (q : r ≡ track_at f size at)
      (s : m ≡ points_in r.point_size r.first r.last) where
    abbrev points : ℕ
    points = points_in (size_of f) (first_of f (entry_place i)) (last_of f (entry_place i))

    there : sought_point f i j ≡ sought_in f (size_of f) (entry_place i) j
    unfolding sought_point
    there = rw (lt-ltb i (count_of f) (omega arith))

    entry_read : r ≡ track_at f (size_of f) (entry_place i)
    entry_read = q ∙ ap (λ (k : ℕ). track_at f k at) z ∙ ap (track_at f (size_of f)) p

    first_read : r.first ≡ first_of f (entry_place i)
    unfolding track_at
    first_read = ap (λ (x : Track). x.first) entry_read

    count_read : m ≡ points
    unfolding track_at
    count_read = s ∙ ap (λ (x : Track). points_in x.point_size x.first x.last) entry_read

    -- where point j stands
    place_read : r.first + size * j ≡ point_place f (size_of f) (entry_place i) j
    place_read = let y = first_read in let w = ap (λ (k : ℕ). k * j) z in omega arith

    pub sought_none : m ≤ j → None ≡ sought_point f i j
    sought_none k = let w = count_read in sym (there ∙ rw (le-ltb j points (omega arith)))

    pub point_in_file : verdict_of f ≡ Ok tt → j < m → r.first + size * j ≤ most_length
    point_in_file g k =
        let o = track_obeys f ((verdict_obeys f).0 g) i (omega arith) in
        let l = o.in_file in
        let x = count_read in
        let y = place_read in
        let w = (named_iff f (size_of f) (entry_place i) (size_positive (structure_of f)) o j).0 (omega arith) in
        omega arith

    pub sought_there : j < m → {to : ℕ} → to ≡ r.first + size * j → Some (record { entry = at; place = to }) ≡ sought_point f i j
    sought_there k {to} a =
        let w = count_read in
        ap (λ (x : ℕ). Some (record { entry = x; place = to })) p
        ∙ ap (λ (x : ℕ). Some (record { entry = entry_place i; place = x })) (a ∙ place_read)
        ∙ sym (there ∙ rw (lt-ltb j points (omega arith)))

-- ---- what is answered of it: v is the verdict as it was found, s where the point stands, r what was read there

module _ (f : List ℕ) where
  abbrev pub point_from : Option Standing → PointAnswer
  point_from (Some w) = Ok (point_at f (size_of f) w.place)
  point_from None = Err (refusal reason.Question)

  abbrev pub coordinate_from : Option Standing → CoordinateAnswer
  coordinate_from (Some w) = Ok (point_coordinate f w.entry w.place)
  coordinate_from None = Err (refusal reason.Question)

  module _ (i j : ℕ) (a b : Bool) where
    abbrev e : ℕ
    e = entry_place i

    abbrev p : ℕ
    p = point_place f (size_of f) e j

    abbrev pub sought : Option Standing
    sought = cond a (cond b (Some (record { entry = e; place = p })) None) None

    abbrev asked : PointAnswer
    asked = cond a (cond b (Ok (point_at f (size_of f) p)) (Err (refusal reason.Question))) (Err (refusal reason.Question))

  point_tests : (i j : ℕ) (a b : Bool) → asked i j a b ≡ point_from (sought i j a b)
  point_tests i j false b = refl
  point_tests i j true false = refl
  point_tests i j true true = refl

  coordinate_tests : (i j : ℕ) (a b : Bool)
      → of_both (asked i j a b) (cond a (Ok (track_at f (size_of f) (entry_place i))) (Err (refusal reason.Question))) ≡ coordinate_from (sought i j a b)
  unfolding track_at point_at
  coordinate_tests i j false b = refl
  coordinate_tests i j true false = refl
  coordinate_tests i j true true = refl

  module _ {v : Verdict} (e : v ≡ verdict_of f) (g : v ≡ Ok tt) (i j : ℕ) where
    abbrev in_tracks : Bool
    in_tracks = ltb i (count_of f)

    abbrev in_points : Bool
    in_points = ltb j (points_in (size_of f) (first_of f (entry_place i)) (last_of f (entry_place i)))

    pub point_sought : point_of f i j ≡ point_from (sought_point f i j)
    unfolding point_of sought_point
    point_sought = no_fault Err (verdict_of f) _ (sym e ∙ g) ∙ point_tests i j in_tracks in_points

    pub coordinate_sought : point_coordinate_of f i j ≡ coordinate_from (sought_point f i j)
    unfolding point_coordinate_of point_of track_of sought_point
    coordinate_sought =
        ap (λ (x : PointAnswer). of_both x (track_of f i)) (no_fault Err (verdict_of f) _ (sym e ∙ g))
        ∙ ap (of_both (asked i j in_tracks in_points)) (no_fault Err (verdict_of f) (track_in f i) (sym e ∙ g))
        ∙ coordinate_tests i j in_tracks in_points

    module _ {s : (Option Standing)} (q : s ≡ sought_point f i j) where
      pub point_none : s ≡ None → {t : Fault} → t ≡ refusal reason.Question → Err t ≡ point_of f i j
      point_none w u = ap Err u ∙ sym (point_sought ∙ ap point_from (sym q ∙ w))

      pub point_there : {at : Standing} → s ≡ Some at → {size : ℕ} {r : Point} → size ≡ size_of f → r ≡ point_at f size at.place → Ok r ≡ point_of f i j
      point_there {at} w z u = ap Ok (u ∙ ap (λ (k : ℕ). point_at f k at.place) z) ∙ sym (point_sought ∙ ap point_from (sym q ∙ w))

      pub coordinate_none : s ≡ None → {t : Fault} → t ≡ refusal reason.Question → Err t ≡ point_coordinate_of f i j
      coordinate_none w u = ap Err u ∙ sym (coordinate_sought ∙ ap coordinate_from (sym q ∙ w))

      pub coordinate_there : {at : Standing} → s ≡ Some at → {r : Coordinate} → r ≡ point_coordinate f at.entry at.place → Ok r ≡ point_coordinate_of f i j
      coordinate_there w u = ap Ok u ∙ sym (coordinate_sought ∙ ap coordinate_from (sym q ∙ w))

-- ---- the coordinate at position x of the track whose entry is at e: n is its end position, s its stretch as it was found

module _ (f : List ℕ) (size e x : ℕ) {n : ℕ} (c : n ≡ end_position_of f e) where
  pub beyond_end : n < x → {t : Fault} → t ≡ refusal reason.Position → Err t ≡ on_track f size e x
  unfolding on_track
  beyond_end h q = ap Err q ∙ sym (rw (lt-leb x (end_position_of f e) (omega arith)))

  module _ (h : x ≤ n) {s : (Option ℕ)} (q : s ≡ stretch_of f size e x) where
    by_stretch : (o : Option ℕ) → s ≡ o → on_track f size e x ≡ on_stretch f size e x o
    unfolding on_track
    by_stretch o w = rw (le-leb x (end_position_of f e) (omega arith)) (ap (on_stretch f size e x) (sym q ∙ w))

    pub no_stretch : s ≡ None → {t : Fault} → t ≡ refusal reason.Position → Err t ≡ on_track f size e x
    no_stretch w u = ap Err u ∙ sym (by_stretch None w)

    pub along_stretch : {p : ℕ} → s ≡ Some p → {r : Coordinate} → r ≡ coordinate_on f size e x p → Ok r ≡ on_track f size e x
    along_stretch {p} w u = ap Ok u ∙ sym (by_stretch (Some p) w)

-- ---- the coordinate at position x of the track with a number: s is the track as it was found

module _ (f : List ℕ) (number x : ℕ) {v : Verdict} (e : v ≡ verdict_of f) (g : v ≡ Ok tt) {s : (Option ℕ)} (q : s ≡ find_track f number) where
  by_track : (o : Option ℕ) → s ≡ o → coordinate_asked f number x ≡ on_found f (size_of f) x o
  unfolding coordinate_asked
  by_track o w = no_fault Err (verdict_of f) _ (sym e ∙ g) ∙ ap (on_found f (size_of f) x) (sym q ∙ w)

  pub no_track : s ≡ None → {t : Fault} → t ≡ refusal reason.Track → Err t ≡ coordinate_asked f number x
  no_track w u = ap Err u ∙ sym (by_track None w)

  pub along_track : {p size : ℕ} → s ≡ Some p → size ≡ size_of f → {r : CoordinateAnswer} → r ≡ on_track f size p x → r ≡ coordinate_asked f number x
  along_track {p} w z u = u ∙ ap (λ (k : ℕ). on_track f k p x) z ∙ sym (by_track (Some p) w)
