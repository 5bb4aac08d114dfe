-- THEOREM: whatever a question on an X.1 file answers lies in 01's ranges, since only an accepted file is answered of. An increment has no
-- range of its own: the start and what it adds up to have one each, so that it is at most twice as far from 0. For coordinates it is proved in
-- x1_questions.
use Prim.Native.Nat.{ℕ, ◌+◌, ◌-◌, ◌≤◌, ◌<◌}
use mathlib.Core.Path.{◌≡◌, ap, subst, ◌∙◌}
use mathlib.Core.Bool.{cond}
use mathlib.Core.List.{List}
use lib.Dec.{ltb}
use lib.IntN.{ℤ, nat_abs, ◌+ℤ◌, ◌-ℤ◌, +ℤ_comm, +ℤ-neg_ℤ_cancel}
use native.Mathlib.Nat.{mul-suc, le-div_iff_mul-le, div-le_self}
use native.Mathlib.Omega.{arith}
use borrow.Author.Tests.{ltb-true, le-ltb}
use Rattle.verdict.specs.declared.Reason.TheVariants as reason
use Rattle.verdict.specs.declared.Fault.{Fault}
use Rattle.std.specs.Prelude.{Ok, Err}
use Rattle.verdict.specs.Answers.{refusal, answer_number}
use Rattle.verdict.proofs.Questions.{accepted_by, some_number}
use Rattle.envelope.specs.declared.Header.{Header}
use Rattle.envelope.specs.Header.{header_in}
use Rattle.envelope.specs.Seal.{most_length}
use Rattle.tables.specs.Table.{signed_of}
use Rattle.x1_records.proofs.Whole.{size_positive}
use Rattle.x1_records.specs.Rows as rows
use Rattle.x1_records.specs.Tracks.{track_at, point_at, points_in}
use Rattle.x1_records.specs.declared.Track.{Track}
use Rattle.x1_records.specs.declared.Point.{Point}
use Rattle.x1_layout.specs.Layout.{count_of, first_of, last_of}
use Rattle.x1_verdict.specs.Facts.{verdict_of}
use Rattle.x1_obeys.specs.Obeys.{Between, Within, structure_of, size_of, entry_place, point_place}
use Rattle.rounding.proofs.Sizes.{minus_size}
use Rattle.x1_lookup.proofs.Lookup.{verdict_obeys}
use Rattle.x1_questions.specs.Answers.{header_answer, track_answer, point_answer}
use Rattle.x1_questions.specs.Questions.{header_of, track_in, track_of, point_in, point_of}
use Rattle.x1_questions.proofs.Stretches.{track_obeys, named_iff}
use Rattle.x1_questions.proofs.Ranges.{chosen}
use Rattle.x1_theorems.proofs.Points.{point_obeys}

-- ---- the ranges

pub record HeaderRange (h : Header) : Type 0 where
  pub structure : Between 1 2 h.structure
  pub version : Between 1 65535 h.«data»
  pub station : Between 1 65535 h.station

pub record TrackRange (t : Track) : Type 0 where
  pub number : Between 1 255 t.number
  pub property : Between 1 5 t.property
  pub start_position : t.start_position ≡ 0
  pub start_latitude : Within 324000000 t.start_latitude
  pub start_longitude : Within 648000000 t.start_longitude
  pub end_position : Between 0 2147483647 t.end_position
  pub end_latitude : Within 324000000 t.end_latitude
  pub end_longitude : Within 648000000 t.end_longitude
  -- the places of the first and the last point, in the file, and how many points there are
  pub first : t.first < t.last
  pub last : t.last ≤ most_length
  pub points : Between 2 most_length (points_in t.point_size t.first t.last)

pub record PointRange (p : Point) : Type 0 where
  pub position : Between 0 2147483647 p.position
  pub latitude_increment : Within 648000000 p.latitude_increment
  pub longitude_increment : Within 1296000000 p.longitude_increment
  pub heading : Within 31416 p.heading
  pub near : Between 0 1 p.near

-- ---- the theorems

-- what leads from x to a number is no farther from 0 than both together
step_size : (x y : ℤ) (m : ℕ) → nat_abs x ≤ m → nat_abs (x +ℤ y) ≤ m → nat_abs y ≤ m + m
step_size x y m h k =
    let e : x +ℤ y -ℤ x ≡ y = ap (λ (z : ℤ). z -ℤ x) (+ℤ_comm x y) ∙ +ℤ-neg_ℤ_cancel y x in
    let s = minus_size (x +ℤ y) x in
    let n = ap nat_abs e in
    omega arith

module _ (f : List ℕ) where
  pub header_range : (h : Header) → header_of f ≡ Ok h → HeaderRange h
  unfolding header_of header_in
  header_range h e =
      let a = accepted_by Err (verdict_of f) (Ok (header_in f)) (Ok h) (λ t q. some_number t.reason (ap answer_number (ap header_answer q))) e in
      let o = (verdict_obeys f).0 a.0 in
      let i : header_in f ≡ h = cc in
      subst HeaderRange i (record { structure = o.structure_version; version = o.fields.data_version; station = o.fields.station })

  pub track_range : (i : ℕ) (t : Track) → track_of f i ≡ Ok t → TrackRange t
  unfolding track_of track_at points_in
  track_range i t e =
      let never : (u : Fault) → Err u ≡ Ok t → ⊥ = λ u q. some_number u.reason (ap answer_number (ap track_answer q)) in
      let a = accepted_by Err (verdict_of f) (track_in f i) (Ok t) never e in
      let o = (verdict_obeys f).0 a.0 in
      let c = chosen (ltb i (count_of f)) (Ok (track_at f (size_of f) (entry_place i))) (Err (refusal reason.Question)) (Ok t) (never (refusal reason.Question)) a.1 in
      let there = ltb-true i (count_of f) c.0 in
      let same : track_at f (size_of f) (entry_place i) ≡ t = let q = c.1 in cc in
      let entry = o.fields.each_entry i there in
      let spread = o.layout.two_points i there in
      let far = spread.1 in
      let size = size_of f in
      let positive = size_positive (structure_of f) in
      let grown = mul-suc size spread.0 in
      let apart = last_of f (entry_place i) - first_of f (entry_place i) in
      let some = le-div_iff_mul-le {k = size} {x = 1} {y = apart} positive in
      let few = div-le_self apart size in
      let one = some.1 (omega arith) in
      let fit = o.layout.points_fit i there in
      let most = o.most in
      subst TrackRange same (record {
        number = entry.number;
        property = entry.property;
        start_position = entry.start_position;
        start_latitude = entry.start_latitude;
        start_longitude = entry.start_longitude;
        end_position = entry.end_position;
        end_latitude = entry.end_latitude;
        end_longitude = entry.end_longitude;
        first = omega arith;
        last = omega arith;
        points = rw (le-ltb (last_of f (entry_place i)) (first_of f (entry_place i)) (omega arith)) (omega arith, omega arith);
      })

  -- a point that is handed out is one of an accepted file, and what stands at its place
  pub record Handed (i j : ℕ) (p : Point) : Type 0 where
    pub accepted : verdict_of f ≡ Ok tt
    pub track : i < count_of f
    pub point : j < points_in (size_of f) (first_of f (entry_place i)) (last_of f (entry_place i))
    pub same : point_at f (size_of f) (point_place f (size_of f) (entry_place i) j) ≡ p

  pub point_handed : (i j : ℕ) (p : Point) → point_of f i j ≡ Ok p → Handed i j p
  unfolding point_of
  point_handed i j p e =
      let never : (u : Fault) → Err u ≡ Ok p → ⊥ = λ u q. some_number u.reason (ap answer_number (ap point_answer q)) in
      let none = never (refusal reason.Question) in
      let at = entry_place i in
      let in_track = cond (ltb i (count_of f)) (point_in f (size_of f) at j) (Err (refusal reason.Question)) in
      let a = accepted_by Err (verdict_of f) in_track (Ok p) never e in
      let c = chosen (ltb i (count_of f)) (point_in f (size_of f) at j) (Err (refusal reason.Question)) (Ok p) none a.1 in
      let points = points_in (size_of f) (first_of f at) (last_of f at) in
      let d = chosen (ltb j points) (Ok (point_at f (size_of f) (point_place f (size_of f) at j))) (Err (refusal reason.Question)) (Ok p) none c.1 in
      record { accepted = a.0; track = ltb-true i (count_of f) c.0; point = ltb-true j points d.0; same = let q = d.1 in cc }

  pub point_range : (i j : ℕ) (p : Point) → point_of f i j ≡ Ok p → PointRange p
  unfolding point_at
  point_range i j p e =
      let w = point_handed i j p e in
      let at = entry_place i in
      let here = point_place f (size_of f) at j in
      let o = (verdict_obeys f).0 w.accepted in
      let there = w.track in
      let track = track_obeys f o i there in
      let counted = (named_iff f (size_of f) at (size_positive (structure_of f)) track j).0 w.point in
      let fields = point_obeys f o i j there counted in
      subst PointRange w.same (record {
        position = fields.position;
        latitude_increment = step_size (signed_of f at rows.start_latitude) (signed_of f here rows.latitude_increment) 324000000 (track).entry.start_latitude ((track).agrees.latitudes j counted);
        longitude_increment = step_size (signed_of f at rows.start_longitude) (signed_of f here rows.longitude_increment) 648000000 (track).entry.start_longitude ((track).agrees.longitudes j counted);
        heading = fields.heading;
        near = fields.near;
      })
