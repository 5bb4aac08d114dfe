-- THEOREM: whatever coordinate a question answers lies in 01's ranges, since only an accepted file is answered of. That of a point is what the
-- file's agreement keeps in them; that at a position is no farther from 0 than those of the two points that it lies between.
use Prim.Native.Nat.{ℕ, suc, ◌+◌, ◌≤◌, ◌<◌}
use mathlib.Core.Path.{◌≡◌, refl, sym, ap, subst, ◌∙◌}
use mathlib.Core.Bool.{Bool, true, false, cond}
use mathlib.Core.List.{List}
use lib.Dec.{ltb, leb}
use lib.IntN.{ℤ, nat_abs}
use native.Mathlib.Omega.{arith}
use borrow.Author.Tests.{ltb-true, lt-ltb}
use Rattle.verdict.specs.declared.Reason.TheVariants as reason
use Rattle.verdict.specs.declared.Fault.{Fault}
use Rattle.verdict.specs.Verdicts.{Verdict}
use Rattle.std.specs.Prelude.{Ok, Err}
use Rattle.verdict.specs.Answers.{refusal, answer_number}
use Rattle.verdict.proofs.Questions.{accepted_by, some_number}
use Rattle.x1_records.specs.Tracks.{points_in}
use Rattle.x1_records.proofs.Whole.{size_positive}
use Rattle.x1_layout.specs.Layout.{structure_of, size_of, count_of, first_of, last_of}
use Rattle.x1_verdict.specs.Facts.{verdict_of}
use Rattle.x1_obeys.specs.Obeys.{Within, entry_place, point_place, Obeys}
use Rattle.rounding.specs.Nearest.{coordinate_of}
use Rattle.rounding.specs.Way.{Limits}
use Rattle.rounding.proofs.Ends.{coordinate_size}
use Rattle.x1_lookup.specs.Lookup.{find_track}
use Rattle.std.specs.Prelude.{Option, Some, None}
use Rattle.x1_lookup.proofs.Lookup.{verdict_obeys}
use Rattle.x1_questions.specs.declared.answers.Coordinate.{Coordinate}
use Rattle.x1_questions.specs.Answers.{coordinate_answer}
use Rattle.x1_questions.specs.Stretch.{end_position_of, latitude_of, longitude_of, point_coordinate, stretch_of, past_of, length_of, coordinate_on}
use Rattle.x1_questions.specs.Coordinate.{Neighbours, CoordinateRange}
use Rattle.x1_questions.specs.Questions.{point_coordinate_of, on_stretch, on_track, on_found, coordinate_asked}
use Rattle.x1_questions.specs.inner.Requires.{TrackObeys}
use Rattle.x1_questions.specs.inner.Sought.{sought_point}
use Rattle.x1_questions.proofs.Stretches.{track_obeys, found_obeys, next_point, named_iff, point_in_lem, on_stretch_lem, found_stretch}
use Rattle.x1_questions.proofs.Questions.{file_fault, coordinate_from, sought, coordinate_sought}

-- what was chosen: of two answers the one that is not refused
pub chosen : {A : Type 0} (t : Bool) (a b c : A) → ¬ (b ≡ c) → cond t a b ≡ c → (t ≡ true) × (a ≡ c)
chosen true a b c n e = (refl, e)
chosen false a b c n e = absurd (n e)

-- a coordinate is no refusal
never : (c : Coordinate) (u : Fault) → ¬ (Err u ≡ Ok c)
never c u q = some_number u.reason (ap answer_number (ap coordinate_answer q))

-- ---- on the way between two points

module _ (f : List ℕ) (size e x : ℕ) (positive : 0 < size) (o : TrackObeys f size e) where
  module _ (j : ℕ) (n : Neighbours f size e x j) where
    abbrev from : ℕ
    from = point_place f size e j

    on_way : (y : ℕ → ℤ) (limit : ℕ) → ((k : ℕ) → point_place f size e k ≤ last_of f e → Within limit (y (point_place f size e k)))
        → Limits (y from) (y (from + size)) (past_of f x from) (length_of f size from)
        → Within limit (coordinate_of (y from) (y (from + size)) (past_of f x from) (length_of f size from))
    on_way y limit within l =
        let here = within j (point_in_lem f size e positive o x j n) in
        let there = within (suc j) n.in_track in
        let same = ap (λ (p : ℕ). nat_abs (y p)) (next_point f size e positive o j) in
        coordinate_size (y from) (y (from + size)) (past_of f x from) (length_of f size from) l.on l.some limit here (omega arith)

    stretch_range : CoordinateRange (coordinate_on f size e x from)
    unfolding coordinate_on
    stretch_range =
        let s = on_stretch_lem f size e positive o x j n in
        record { latitude = on_way (latitude_of f e) 324000000 o.agrees.latitudes s.latitude; longitude = on_way (longitude_of f e) 648000000 o.agrees.longitudes s.longitude }

  track_range : (c : Coordinate) → on_track f size e x ≡ Ok c → CoordinateRange c
  unfolding on_track
  track_range c q = by_stretch (stretch_of f size e x) refl (chosen (leb x (end_position_of f e)) _ (Err (refusal reason.Position)) (Ok c) (never c (refusal reason.Position)) q).1
    where
      by_stretch : (s : Option ℕ) → stretch_of f size e x ≡ s → on_stretch f size e x s ≡ Ok c → CoordinateRange c
      by_stretch None w r = absurd (never c (refusal reason.Position) r)
      by_stretch (Some p) w r =
          let s = found_stretch f size e positive o x p w in
          let same : coordinate_on f size e x p ≡ c = cc in
          subst CoordinateRange (ap (coordinate_on f size e x) (sym s.1) ∙ same) (stretch_range s.0 s.2)

-- ---- at a position

pub coordinate_range : (f : List ℕ) (number x : ℕ) (c : Coordinate) → coordinate_asked f number x ≡ Ok c → CoordinateRange c
unfolding coordinate_asked
coordinate_range f number x c q =
    let a = accepted_by Err (verdict_of f) (on_found f (size_of f) x (find_track f number)) (Ok c) (never c) q in
    by_found ((verdict_obeys f).0 a.0) (find_track f number) refl a.1
  where
    by_found : Obeys f → (s : Option ℕ) → find_track f number ≡ s → on_found f (size_of f) x s ≡ Ok c → CoordinateRange c
    by_found o None w r = absurd (never c (refusal reason.Track) r)
    by_found o (Some e) w r = track_range f (size_of f) e x (size_positive (structure_of f)) (found_obeys f o number e w) c r

-- ---- of a point

module _ (f : List ℕ) (i j : ℕ) where
  abbrev its_entry : ℕ
  its_entry = entry_place i

  abbrev points : ℕ
  points = points_in (size_of f) (first_of f its_entry) (last_of f its_entry)

  abbrev its : Coordinate
  its = point_coordinate f its_entry (point_place f (size_of f) its_entry j)

  -- where there is such a point, it is answered
  pub coordinate_named : verdict_of f ≡ Ok tt → i < count_of f → j < points → point_coordinate_of f i j ≡ Ok its
  unfolding sought_point
  coordinate_named g h k = coordinate_sought f refl g i j ∙ rw (lt-ltb i (count_of f) h, lt-ltb j points k) refl

  in_file : Obeys f → i < count_of f → j < points → CoordinateRange its
  in_file o h k =
      let t = track_obeys f o i h in
      let l = (named_iff f (size_of f) its_entry (size_positive (structure_of f)) t j).0 k in
      record { latitude = t.agrees.latitudes j l; longitude = t.agrees.longitudes j l }

  by_tests : Obeys f → (c : Coordinate) (a b : Bool) → ltb i (count_of f) ≡ a → ltb j points ≡ b → coordinate_from f (sought f i j a b) ≡ Ok c → CoordinateRange c
  by_tests o c false b g h r = absurd (never c (refusal reason.Question) r)
  by_tests o c true false g h r = absurd (never c (refusal reason.Question) r)
  by_tests o c true true g h r = let same : its ≡ c = cc in subst CoordinateRange same (in_file o (ltb-true i (count_of f) g) (ltb-true j points h))

  pub point_coordinate_range : (c : Coordinate) → point_coordinate_of f i j ≡ Ok c → CoordinateRange c
  unfolding sought_point
  point_coordinate_range c q = by_verdict (verdict_of f) refl
    where
      by_verdict : (v : Verdict) → verdict_of f ≡ v → CoordinateRange c
      by_verdict (Err t) g = absurd (never c t (sym ((file_fault f t g).3 i j) ∙ q))
      by_verdict (Ok tt) g = by_tests ((verdict_obeys f).0 g) c (ltb i (count_of f)) (ltb j points) refl refl (sym (coordinate_sought f refl g i j) ∙ q)
