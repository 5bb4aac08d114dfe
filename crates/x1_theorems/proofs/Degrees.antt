-- THEOREM: what each question in degrees answers, for every input: refusals are those of the coordinate and of the point; else the milliarcseconds
-- are those of the coordinate, or the track's start plus the point's increment, and the degrees beside them are each one division of them.
use Prim.Native.Nat.{ℕ, ◌^◌, ◌≤◌}
use mathlib.Core.Path.{◌≡◌, refl, sym, ap, subst, subst⁻¹, ◌∙◌}
use mathlib.Core.Logic.{◌↔◌}
use mathlib.Core.List.{List, [], ◌∷◌}
use native.Mathlib.Omega.{arith}
use lib.Dec.{T}
use lib.IntN.{ℤ, pos, nat_abs, ◌*ℤ◌}
use lib.Signed.{◌<ℤ◌}
use lib.Ieee.{Float, binary64, to_bits, lt}
use Rattle.verdict.specs.declared.Fault.{Fault}
use Rattle.verdict.specs.Answers.{answer_number, answer_place, answer_values}
use Rattle.verdict.specs.Order.{Asked}
use Rattle.verdict.proofs.Questions.{some_number}
use Rattle.x1_records.specs.declared.Point.{Point}
use Rattle.x1_records.specs.Tracks.{point_at}
use Rattle.x1_records.proofs.Whole.{size_positive}
use Rattle.x1_verdict.specs.Facts.{verdict_of}
use Rattle.x1_obeys.specs.Obeys.{structure_of, size_of, entry_place, point_place}
use Rattle.x1_lookup.specs.Lookup.{number_at}
use Rattle.x1_lookup.proofs.Lookup.{verdict_obeys, found_iff}
use Rattle.degrees.specs.Degrees.{degree, degrees_of}
use Rattle.degrees_theorems.specs.Wholes.{IsWhole, told_apart}
use Rattle.degrees_theorems.proofs.Once.{conversion_exact, one_rounding}
use Rattle.degrees_theorems.proofs.Numbers.{degrees_finite}
use Rattle.degrees_theorems.proofs.Whole.{whole_degrees_exact}
use Rattle.degrees_theorems.proofs.Apart.{degrees_strict, degrees_say}
use Rattle.x1_questions.specs.Results.{TrackAnswer}
use Rattle.std.specs.Prelude.{Ok, Err}
use Rattle.x1_questions.specs.Results.{PointAnswer}
use Rattle.x1_questions.specs.declared.answers.Coordinate.{Coordinate}
use Rattle.x1_questions.specs.Results.{CoordinateAnswer}
use Rattle.x1_questions.specs.Answers.{coordinate_answer}
use Rattle.x1_questions.specs.Coordinate.{CoordinateRange}
use Rattle.x1_questions.specs.Questions.{track_of, point_of, of_both, point_coordinate_of, coordinate_asked}
use Rattle.x1_questions.proofs.Alike.{point_alike}
use Rattle.x1_questions.specs.Stretch.{position_of}
use Rattle.x1_questions.proofs.Stretches.{track_obeys, named_iff}
use Rattle.x1_questions.proofs.Ranges.{coordinate_range, coordinate_named, point_coordinate_range}
use Rattle.x1_degrees.specs.declared.Surveyed.{Surveyed}
use Rattle.x1_degrees.specs.Results.{DegreesAnswer}
use Rattle.x1_degrees.specs.Answers.{coordinate_in, degrees_in, degrees_answer}
use Rattle.x1_degrees.specs.Questions.{surveyed_at, with_degrees, degrees_asked, point_degrees_of}
use Rattle.x1_theorems.specs.Asked.{point_checks, coordinate_checks}
use Rattle.x1_theorems.specs.Degrees.{DegreesOf, InDegrees, StandsAt}
use Rattle.x1_theorems.proofs.Asked.{point_asked, coordinate_asked_lem}
use Rattle.x1_theorems.proofs.Coordinates.{coordinate_at_point}
use Rattle.x1_theorems.proofs.Ranges.{point_handed}

-- ---- the number and the place, of two answers that have the same ones

number_kept : (a : CoordinateAnswer) → answer_number (degrees_answer (with_degrees a)) ≡ answer_number (coordinate_answer a)
number_kept (Ok c) = refl
number_kept (Err t) = refl

place_kept : (a : CoordinateAnswer) → answer_place (degrees_answer (with_degrees a)) ≡ answer_place (coordinate_answer a)
place_kept (Ok c) = refl
place_kept (Err t) = refl

same_asked : {a b n p : ℕ} {c d : ℕ} {Z : Type 0} → a ≡ b → c ≡ d → ((b ≡ n) × (d ≡ p)) ↔ Z → ((a ≡ n) × (c ≡ p)) ↔ Z
same_asked e g h = (λ w. h.0 (sym e ∙ w.0, sym g ∙ w.1), λ z. let w = h.1 z in (e ∙ w.0, g ∙ w.1))

-- THEOREM: at a position, the refusals of the coordinate.
pub degrees_asked_lem : (f : List ℕ) (number x n p : ℕ)
    → ((answer_number (degrees_answer (degrees_asked f number x)) ≡ n) × (answer_place (degrees_answer (degrees_asked f number x)) ≡ p)) ↔ Asked (verdict_of f) (coordinate_checks f number x) n p
unfolding degrees_asked
degrees_asked_lem f number x n p =
    let a = coordinate_asked f number x in
    same_asked (number_kept a) (place_kept a) (coordinate_asked_lem f number x n p)

-- THEOREM: of a point, the refusals of the point.
pub point_degrees_asked : (f : List ℕ) (i j n p : ℕ)
    → ((answer_number (degrees_answer (point_degrees_of f i j)) ≡ n) × (answer_place (degrees_answer (point_degrees_of f i j)) ≡ p)) ↔ Asked (verdict_of f) (point_checks f i j) n p
unfolding point_degrees_of
point_degrees_asked f i j n p =
    let a = point_coordinate_of f i j in
    let w = point_alike f i j in
    same_asked (number_kept a ∙ w.0) (place_kept a ∙ w.1) (point_asked f i j n p)

-- ---- what is answered

-- what is set beside a coordinate is its own
its_own : (a : CoordinateAnswer) (s : Surveyed) → with_degrees a ≡ Ok s → (a ≡ Ok s.coordinate) × (s ≡ surveyed_at s.coordinate)
its_own (Ok c) s e = let q : surveyed_at c ≡ s = cc in let k : c ≡ s.coordinate = ap (λ (u : Surveyed). u.coordinate) q in (ap Ok k, sym q ∙ ap surveyed_at k)
its_own (Err t) s e = absurd (some_number t.reason (ap answer_number (ap degrees_answer e)))

-- one number, of milliarcseconds in the range of a longitude
one : (z : ℤ) → nat_abs z ≤ 648000000 → DegreesOf z (degrees_of z)
one z h = let l : nat_abs z ≤ 2 ^ 53 = omega arith in record { divided = refl; converted = conversion_exact z l; rounded = one_rounding z l; number = degrees_finite z l }

both : (c : Coordinate) → CoordinateRange c → InDegrees (surveyed_at c)
both c r = let h = r.latitude in record { latitude = one c.latitude (omega arith); longitude = one c.longitude r.longitude }

-- THEOREM: at a position, the milliarcseconds are the coordinate's.
pub degrees_record : (f : List ℕ) (number x : ℕ) (s : Surveyed) → degrees_asked f number x ≡ Ok s → coordinate_asked f number x ≡ Ok s.coordinate
unfolding degrees_asked
degrees_record f number x s e = (its_own (coordinate_asked f number x) s e).0

-- THEOREM: and the degrees beside them are each one division.
pub degrees_beside : (f : List ℕ) (number x : ℕ) (s : Surveyed) → degrees_asked f number x ≡ Ok s → InDegrees s
unfolding degrees_asked
degrees_beside f number x s e =
    let w = its_own (coordinate_asked f number x) s e in
    subst InDegrees (sym w.1) (both s.coordinate (coordinate_range f number x s.coordinate w.0))

-- THEOREM: of a point, the milliarcseconds are its track's start plus its increment.
pub point_degrees_record : (f : List ℕ) (i j : ℕ) (s : Surveyed) → point_degrees_of f i j ≡ Ok s → StandsAt f i j s.coordinate
unfolding point_degrees_of point_coordinate_of
point_degrees_record f i j s e = by_answers (point_of f i j) (track_of f i) refl refl (its_own (point_coordinate_of f i j) s e).0
  where
    never : (t : Fault) → Err t ≡ Ok s.coordinate → ⊥
    never t q = some_number t.reason (ap answer_number (ap coordinate_answer q))

    by_answers : (a : PointAnswer) (b : TrackAnswer) → point_of f i j ≡ a → track_of f i ≡ b → of_both a b ≡ Ok s.coordinate → StandsAt f i j s.coordinate
    by_answers (Err t) b g h q = absurd (never t q)
    by_answers (Ok p) (Err t) g h q = absurd (never t q)
    by_answers (Ok p) (Ok t) g h q = record { its_track = t; its_point = p; track_answered = h; point_answered = g; sums = cc }

-- THEOREM: and the degrees beside them are each one division.
pub point_degrees_beside : (f : List ℕ) (i j : ℕ) (s : Surveyed) → point_degrees_of f i j ≡ Ok s → InDegrees s
unfolding point_degrees_of
point_degrees_beside f i j s e =
    let w = its_own (point_coordinate_of f i j) s e in
    subst InDegrees (sym w.1) (both s.coordinate (point_coordinate_range f i j s.coordinate w.0))

-- ---- degrees of milliarcseconds, whatever question answers them

-- THEOREM: every whole degree is exact.
pub whole_exact : (k : ℤ) (x : Float) → nat_abs k ≤ 180 → DegreesOf (k *ℤ pos degree) x → IsWhole x k
whole_exact k x h p = subst⁻¹ (λ (y : Float). IsWhole y k) p.divided (whole_degrees_exact k h)

module _ (z w : ℤ) (x y : Float) (p : DegreesOf z x) (q : DegreesOf w y) (h : nat_abs z ≤ told_apart) (k : nat_abs w ≤ told_apart) where
  -- THEOREM: equal milliarcseconds have equal degrees, and no others have.
  pub degrees_same : (z ≡ w) ↔ (x ≡ y)
  degrees_same = (λ e. p.divided ∙ ap degrees_of e ∙ sym q.divided, λ e. degrees_say z w h k (sym p.divided ∙ e ∙ q.divided))

  -- THEOREM: more milliarcseconds have more degrees.
  pub degrees_rise : z <ℤ w → T (lt x y)
  degrees_rise l = rw (p.divided, q.divided) (degrees_strict z w h k l)

-- ---- the two questions

-- THEOREM: at the position of a point, on its track, the answer is that of the point.
pub degrees_agree : (f : List ℕ) (i j : ℕ) (p : Point) → point_of f i j ≡ Ok p → degrees_asked f (number_at f (entry_place i)) p.position ≡ point_degrees_of f i j
unfolding degrees_asked point_degrees_of point_at
degrees_agree f i j p e =
    let w = point_handed f i j p e in
    let o = (verdict_obeys f).0 w.accepted in
    let at = entry_place i in
    let number = number_at f at in
    let found = (found_iff f o number at).1 (record { track = i; in_file = w.track; there = refl; same = refl }) in
    let named = (named_iff f (size_of f) at (size_positive (structure_of f)) (track_obeys f o i w.track) j).0 w.point in
    let position : position_of f (point_place f (size_of f) at j) ≡ p.position = ap (λ (u : Point). u.position) w.same in
    ap with_degrees
    (ap (coordinate_asked f number) (sym position) ∙ coordinate_at_point f o number at found j named ∙ sym (coordinate_named f i j w.accepted w.track w.point))

-- ---- the answer in the one shape

-- THEOREM: its values are its milliarcseconds and the bits of its degrees; so those of a refusal are 0, of which the bits of 0.0 are two.
pub degrees_values : (a : DegreesAnswer)
    → answer_values (degrees_answer a)
    ≡ (coordinate_in a).latitude ∷ (coordinate_in a).longitude ∷ pos (to_bits binary64 (degrees_in a).latitude) ∷ pos (to_bits binary64 (degrees_in a).longitude) ∷ []
unfolding to_bits
degrees_values (Ok s) = refl
degrees_values (Err t) = refl
