-- A track that obeys: its positions rise from any point to any later one, so each position up to the end lies on a stretch, on which the
-- numbers are inside rounding's limits.
use Prim.Native.Nat.{ℕ, suc, zero, ◌+◌, ◌-◌, ◌*◌, ◌≤◌, ◌<◌}
use mathlib.Core.Path.{◌≡◌, sym, ap, subst, ◌∙◌}
use mathlib.Core.Bool.{false}
use mathlib.Core.Logic.{◌↔◌}
use mathlib.Core.List.{List}
use lib.IntN.{ℤ, nat_abs}
use native.Mathlib.Nat.{mul-suc, mul_comm, mul-le-mul_left, lt_of_mul-lt-mul_left, le-div_iff_mul-le}
use native.Mathlib.Omega.{arith}
use borrow.Author.Tests.{le-ltb, leb-true, leb-false}
use Rattle.x1_records.specs.Tracks.{points_in}
use Rattle.x1_layout.specs.Layout.{count_of, first_of, last_of}
use Rattle.x1_obeys.specs.Obeys.{size_of, entry_place, point_place, Obeys}
use Rattle.rounding.specs.Way.{farthest, Limits}
use Rattle.std.specs.Prelude.{Some, None}
use Rattle.x1_lookup.specs.Lookup.{find_track}
use Rattle.x1_lookup.proofs.Lookup.{found_number}
use Rattle.x1_lookup.proofs.Search.{FirstStart, first_iff, no_start_iff}
use Rattle.x1_lookup.proofs.Rising.{rise, rise_order}
use Rattle.x1_questions.specs.Stretch.{end_position_of, position_of, latitude_of, longitude_of, reaches, stretch_of, past_of, length_of}
use Rattle.x1_questions.specs.inner.Requires.{TrackObeys, OnStretch}
use Rattle.x1_questions.specs.Coordinate.{Neighbours}

-- each track of a file that obeys
pub track_obeys : (f : List ℕ) → Obeys f → (i : ℕ) → i < count_of f → TrackObeys f (size_of f) (entry_place i)
track_obeys f o i h =
    let p = o.layout.points_fit i h in
    let m = o.most in
    record {
      entry = o.fields.each_entry i h;
      agrees = o.agreement.each_track i h;
      two_points = o.layout.two_points i h;
      in_file = omega arith;
    }

-- and so the one that was found by its number
pub found_obeys : (f : List ℕ) → Obeys f → (number e : ℕ) → find_track f number ≡ Some e → TrackObeys f (size_of f) e
found_obeys f o number e q =
    let w = found_number f number e q in
    subst (TrackObeys f (size_of f)) (sym w.there) (track_obeys f o w.track w.in_file)

module _ (f : List ℕ) (size e : ℕ) (positive : 0 < size) (o : TrackObeys f size e) where
  -- ---- its points

  pub next_point : (j : ℕ) → point_place f size e j + size ≡ point_place f size e (suc j)
  next_point j = let z = mul-suc size j in omega arith

  -- point j is counted exactly where it is no further than the last one
  pub named_iff : (j : ℕ) → (j < points_in size (first_of f e) (last_of f e)) ↔ (point_place f size e j ≤ last_of f e)
  unfolding points_in
  named_iff j =
      let w = o.two_points.1 in
      let d = le-div_iff_mul-le {k = size} {x = j} {y = last_of f e - first_of f e} positive in
      let c = mul_comm j size in
      rw (le-ltb (last_of f e) (first_of f e) (omega arith)) (
        λ h. let g = d.0 (omega arith) in omega arith,
        λ h. let g = d.1 (omega arith) in omega arith,
      )

  -- and exactly where its count is at most the last one's
  in_count : (j : ℕ) → point_place f size e j ≤ last_of f e → j ≤ suc o.two_points.0
  in_count j h =
      let w = o.two_points.1 in
      let z = mul-suc size (suc o.two_points.0) in
      let l : size * j < size * suc (suc o.two_points.0) = omega arith in
      let q = lt_of_mul-lt-mul_left size l in
      omega arith

  pub in_track : (j : ℕ) → j ≤ suc o.two_points.0 → point_place f size e j ≤ last_of f e
  in_track j h = let w = o.two_points.1 in let m = mul-le-mul_left size h in omega arith

  -- ---- their positions

  -- from each point to the next, and so to any later one
  step : (j : ℕ) → suc j < suc (suc o.two_points.0) → position_of f (point_place f size e j) < position_of f (point_place f size e (suc j))
  step j h = o.agrees.rising j (in_track (suc j) (omega arith))

  pub positions_rise : (j i : ℕ) → i < j → point_place f size e j ≤ last_of f e → position_of f (point_place f size e i) < position_of f (point_place f size e j)
  positions_rise j i h l =
      let c = in_count j l in
      rise (λ k. position_of f (point_place f size e k)) (suc (suc o.two_points.0)) step j i h (omega arith)

  pub positions_order : (j i : ℕ) → i ≤ j → point_place f size e j ≤ last_of f e → position_of f (point_place f size e i) ≤ position_of f (point_place f size e j)
  positions_order j i h l =
      let c = in_count j l in
      rise_order (λ k. position_of f (point_place f size e k)) (suc (suc o.two_points.0)) step j i h (omega arith)

  position_last : position_of f (point_place f size e (suc o.two_points.0)) ≡ end_position_of f e
  position_last = ap (position_of f) (sym o.two_points.1) ∙ o.agrees.last_position

  pub position_most : (j : ℕ) → point_place f size e j ≤ last_of f e → position_of f (point_place f size e j) ≤ end_position_of f e
  position_most j h =
      let k = suc o.two_points.0 in
      let p = position_last in
      let r = positions_order k j (in_count j h) (in_track k (omega arith)) in
      omega arith

  -- ---- the stretch that a position lies on

  pub some_stretch : (x : ℕ) → x ≤ end_position_of f e → stretch_of f size e x ≡ None → ⊥
  unfolding stretch_of
  some_stretch x h q =
      let k = o.two_points.0 in
      let w = o.two_points.1 in
      let n = next_point k in
      let p = position_last in
      let s = ap (position_of f) n in
      let none = (no_start_iff (reaches f size x) size (last_of f e) positive (first_of f e)).0 q k (omega arith) in
      let b = leb-false x (position_of f (point_place f size e k + size)) none in
      omega arith

  -- p is point j, and x lies between it and the next one
  abbrev pub Stretched : ℕ → ℕ → Type 0
  Stretched x p = (j : ℕ) × (p ≡ point_place f size e j) × Neighbours f size e x j

  reached : (x p : ℕ) → FirstStart (reaches f size x) size (last_of f e) (first_of f e) p → Stretched x p
  reached x p w = (w.steps, w.there, record { in_track = in_track (suc w.steps) within; past = past w.steps w.failed; ahead = ahead })
    where
      within : suc w.steps ≤ suc o.two_points.0
      within =
          let z = o.two_points.1 in
          let g = w.there in
          let h = w.inside in
          let l : size * w.steps < size * suc o.two_points.0 = omega arith in
          lt_of_mul-lt-mul_left size l

      ahead : x ≤ position_of f (point_place f size e (suc w.steps))
      ahead =
          let g = leb-true x (position_of f (p + size)) w.passes in
          let h : p + size ≡ point_place f size e (suc w.steps) = ap (λ (q : ℕ). q + size) w.there ∙ next_point w.steps in
          let s = ap (position_of f) h in
          omega arith

      past : (j : ℕ) → ((i : ℕ) → i < j → reaches f size x (first_of f e + size * i) ≡ false) → position_of f (point_place f size e j) ≤ x
      past zero h = let z = o.agrees.first_position in omega arith
      past (suc j) h =
          let g = leb-false x (position_of f (point_place f size e j + size)) (h j (omega arith)) in
          let s = ap (position_of f) (next_point j) in
          omega arith

  pub found_stretch : (x p : ℕ) → stretch_of f size e x ≡ Some p → Stretched x p
  unfolding stretch_of
  found_stretch x p q = reached x p ((first_iff (reaches f size x) size (last_of f e) positive (first_of f e) p).0 q)

  -- ---- the numbers on it

  module _ (x j : ℕ) (n : Neighbours f size e x j) where
    next_position : position_of f (point_place f size e j + size) ≡ position_of f (point_place f size e (suc j))
    next_position = ap (position_of f) (next_point j)

    limits : (y0 y1 : ℤ) → nat_abs y0 ≤ farthest → nat_abs y1 ≤ farthest → Limits y0 y1 (past_of f x (point_place f size e j)) (length_of f size (point_place f size e j))
    limits y0 y1 h g =
        let s = next_position in
        let r = o.agrees.rising j n.in_track in
        let m = position_most (suc j) n.in_track in
        let l = o.entry.end_position.1 in
        let a = n.ahead in
        record { first = h; last = g; on = omega arith; some = omega arith; short = omega arith }

    pub point_in_lem : point_place f size e j ≤ last_of f e
    point_in_lem = let s = next_point j in let h = n.in_track in omega arith

    pub on_stretch_lem : OnStretch f size e x (point_place f size e j)
    on_stretch_lem =
        let p = point_in_lem in
        let s = next_point j in
        let la = o.agrees.latitudes j p in
        let lb = o.agrees.latitudes (suc j) n.in_track in
        let lc = ap (λ (q : ℕ). nat_abs (latitude_of f e q)) s in
        let oa = o.agrees.longitudes j p in
        let ob = o.agrees.longitudes (suc j) n.in_track in
        let oc = ap (λ (q : ℕ). nat_abs (longitude_of f e q)) s in
        record {
          in_file = let h = o.in_file in omega arith;
          past = n.past;
          latitude = limits (latitude_of f e (point_place f size e j)) (latitude_of f e (point_place f size e j + size)) (omega arith) (omega arith);
          longitude = limits (longitude_of f e (point_place f size e j)) (longitude_of f e (point_place f size e j + size)) (omega arith) (omega arith);
        }

  -- the stretch that was found
  pub on_found_lem : (x p : ℕ) → stretch_of f size e x ≡ Some p → OnStretch f size e x p
  on_found_lem x p q = let w = found_stretch x p q in subst (OnStretch f size e x) (sym w.1) (on_stretch_lem x w.0 w.2)
