-- The coordinate at a position is the nearest to the exact linear one between two neighbouring points, no other answer is, and at a stored
-- point it is that point's own. The stretch that is found starts with such a point; where x is itself the position of a point, the
-- stretches on both sides of it agree.
use Prim.Native.Nat.{ℕ, suc, ◌-◌, ◌≤◌, ◌<◌}
use mathlib.Core.Path.{◌≡◌, refl, sym, ap, ap₂, ◌∙◌}
use mathlib.Core.Logic.{⊎_elim, ◌↔◌}
use mathlib.Core.List.{List}
use lib.IntN.{ℤ}
use native.Mathlib.Omega.{arith}
use Rattle.verdict.specs.declared.Reason.TheVariants as reason
use Rattle.verdict.proofs.Orders.{le-or-lt}
use Rattle.x1_records.proofs.Whole.{size_positive}
use Rattle.x1_layout.specs.Layout.{count_of, last_of}
use Rattle.x1_obeys.specs.Obeys.{structure_of, size_of, entry_place, point_place, Obeys}
use Rattle.rounding.specs.Nearest.{coordinate_of}
use Rattle.rounding.proofs.Ends.{coordinate_is, coordinate_only, at_start, at-end}
use Rattle.x1_lookup.specs.Lookup.{number_at, find_track}
use Rattle.std.specs.Prelude.{Option, Some, None}
use Rattle.x1_lookup.proofs.Lookup.{verdict_obeys, absent_iff}
use Rattle.x1_questions.specs.declared.answers.Coordinate.{Coordinate}
use Rattle.std.specs.Prelude.{Ok, Err}
use Rattle.x1_questions.specs.Stretch.{end_position_of, position_of, latitude_of, longitude_of, point_coordinate, stretch_of, coordinate_on}
use Rattle.x1_questions.specs.inner.Requires.{TrackObeys}
use Rattle.x1_questions.specs.Coordinate.{Neighbours, NearestAt, CoordinateAt}
use Rattle.verdict.specs.Answers.{refusal, answer_number}
use Rattle.x1_questions.specs.Answers.{coordinate_answer}
use Rattle.x1_questions.specs.Questions.{on_track, coordinate_asked}
use Rattle.x1_questions.proofs.Stretches.{found_obeys, next_point, positions_rise, positions_order, position_most, some_stretch, found_stretch, point_in_lem}
use Rattle.x1_questions.proofs.Questions.{beyond_end, along_stretch, no_track, along_track}

-- ---- between two places of points, p and q

made : ℤ → ℤ → Coordinate
made a b = record { latitude = a; longitude = b }

module _ (f : List ℕ) (e x p q : ℕ) where
  -- how far x is past p, and how long the way is
  abbrev t : ℕ
  t = x - position_of f p

  abbrev den : ℕ
  den = position_of f q - position_of f p

  abbrev between : Coordinate
  between = record {
    latitude = coordinate_of (latitude_of f e p) (latitude_of f e q) t den;
    longitude = coordinate_of (longitude_of f e p) (longitude_of f e q) t den;
  }

  module _ (some : 0 < den) where
    between_nearest : NearestAt f (latitude_of f e) x p q between.latitude × NearestAt f (longitude_of f e) x p q between.longitude
    between_nearest = (coordinate_is (latitude_of f e p) (latitude_of f e q) t den some, coordinate_is (longitude_of f e p) (longitude_of f e q) t den some)

    between_only : (r : Coordinate) → NearestAt f (latitude_of f e) x p q r.latitude → NearestAt f (longitude_of f e) x p q r.longitude → r ≡ between
    unfolding made
    between_only r a b = ap₂ made (coordinate_only (latitude_of f e p) (latitude_of f e q) t den a some) (coordinate_only (longitude_of f e p) (longitude_of f e q) t den b some)

    between_first : x ≡ position_of f p → between ≡ point_coordinate f e p
    unfolding made
    between_first h =
        let z : t ≡ 0 = omega arith in
        ap (λ (s : ℕ). made (coordinate_of (latitude_of f e p) (latitude_of f e q) s den) (coordinate_of (longitude_of f e p) (longitude_of f e q) s den)) z
        ∙ ap₂ made (at_start (latitude_of f e p) (latitude_of f e q) den some) (at_start (longitude_of f e p) (longitude_of f e q) den some)

    between_second : x ≡ position_of f q → between ≡ point_coordinate f e q
    unfolding made
    between_second h =
        let z : t ≡ den = omega arith in
        ap (λ (s : ℕ). made (coordinate_of (latitude_of f e p) (latitude_of f e q) s den) (coordinate_of (longitude_of f e p) (longitude_of f e q) s den)) z
        ∙ ap₂ made (at-end (latitude_of f e p) (latitude_of f e q) den some) (at-end (longitude_of f e p) (longitude_of f e q) den some)

-- ---- between point j and the next

module _ (f : List ℕ) (size e : ℕ) (positive : 0 < size) (o : TrackObeys f size e) (x : ℕ) where
  abbrev onward : ℕ → Coordinate
  onward j = between f e x (point_place f size e j) (point_place f size e (suc j))

  on_points : (j : ℕ) → coordinate_on f size e x (point_place f size e j) ≡ onward j
  unfolding coordinate_on
  on_points j = ap (λ (q : ℕ). between f e x (point_place f size e j) q) (next_point f size e positive o j)

  module _ (j : ℕ) (n : Neighbours f size e x j) where
    way : 0 < position_of f (point_place f size e (suc j)) - position_of f (point_place f size e j)
    way = let r = o.agrees.rising j n.in_track in omega arith

    onward_nearest : CoordinateAt f size e x (onward j)
    onward_nearest =
        let w = between_nearest f e x (point_place f size e j) (point_place f size e (suc j)) way in
        record { point = j; between = n; latitude = w.0; longitude = w.1 }

    -- at the position of point k the stretch's first point is k, or its second
    onward_point : (k : ℕ) → point_place f size e k ≤ last_of f e → x ≡ position_of f (point_place f size e k) → onward j ≡ point_coordinate f e (point_place f size e k)
    onward_point k l h =
        ⊎_elim
        (λ (g : k ≤ j).
        ⊎_elim
        (λ (d : j ≤ k). same (omega arith))
        (λ (d : k < j). let r = positions_rise f size e positive o j k d (point_in_lem f size e positive o x j n) in let b = n.past in absurd (omega arith))
        (le-or-lt j k))
        (λ (g : j < k).
        ⊎_elim
        (λ (d : k ≤ suc j). next (omega arith))
        (λ (d : suc j < k). let r = positions_rise f size e positive o k (suc j) d l in let a = n.ahead in absurd (omega arith))
        (le-or-lt k (suc j)))
        (le-or-lt k j)
      where
        same : j ≡ k → onward j ≡ point_coordinate f e (point_place f size e k)
        same d =
            let s = ap (λ (i : ℕ). point_place f size e i) d in
            between_first f e x (point_place f size e j) (point_place f size e (suc j)) way (h ∙ sym (ap (position_of f) s)) ∙ ap (point_coordinate f e) s

        next : suc j ≡ k → onward j ≡ point_coordinate f e (point_place f size e k)
        next d =
            let s = ap (λ (i : ℕ). point_place f size e i) d in
            between_second f e x (point_place f size e j) (point_place f size e (suc j)) way (h ∙ sym (ap (position_of f) s)) ∙ ap (point_coordinate f e) s

  -- x lies on two stretches only where they share a point at x, and there they agree
  earlier : (i j : ℕ) → i < j → Neighbours f size e x i → Neighbours f size e x j → onward i ≡ onward j
  earlier i j h n m =
      let l = point_in_lem f size e positive o x j m in
      let r = positions_order f size e positive o j (suc i) h l in
      let a = n.ahead in
      let b = m.past in
      onward_point i n j l (omega arith) ∙ sym (onward_point j m j l (omega arith))

  agree : (i j : ℕ) → Neighbours f size e x i → Neighbours f size e x j → onward i ≡ onward j
  agree i j n m =
      ⊎_elim
      (λ (g : i ≤ j). ⊎_elim (λ (d : j ≤ i). let s : i ≡ j = omega arith in ap onward s) (λ (d : i < j). earlier i j d n m) (le-or-lt j i))
      (λ (g : j < i). sym (earlier j i g m n))
      (le-or-lt i j)

  onward_only : (j : ℕ) → Neighbours f size e x j → (r : Coordinate) → CoordinateAt f size e x r → r ≡ onward j
  onward_only j n r c =
      let k = c.point in
      let m = c.between in
      between_only f e x (point_place f size e k) (point_place f size e (suc k)) (way k m) r c.latitude c.longitude ∙ agree k j m n

-- ---- the question, in a file that obeys, on a track that is found

module _ (f : List ℕ) (o : Obeys f) (number e : ℕ) (found : find_track f number ≡ Some e) where
  abbrev size : ℕ
  size = size_of f

  positive : 0 < size
  positive = size_positive (structure_of f)

  abbrev end : ℕ
  end = end_position_of f e

  track : TrackObeys f size e
  track = found_obeys f o number e found

  on_track_lem : (x : ℕ) → coordinate_asked f number x ≡ on_track f size e x
  on_track_lem x = sym (along_track f number x refl ((verdict_obeys f).1 o) refl found refl refl)

  -- the answer, on the stretch that is found
  answered : (x : ℕ) → x ≤ end → (j : ℕ) × Neighbours f size e x j × (coordinate_asked f number x ≡ Ok (onward f size e positive track x j))
  answered x h = by_stretch (stretch_of f size e x) refl
    where
      by_stretch : (s : Option ℕ) → stretch_of f size e x ≡ s → (j : ℕ) × Neighbours f size e x j × (coordinate_asked f number x ≡ Ok (onward f size e positive track x j))
      by_stretch None q = absurd (some_stretch f size e positive track x h q)
      by_stretch (Some p) q =
          let w = found_stretch f size e positive track x p q in (
            w.0,
            w.2,
            on_track_lem x
                ∙ sym (along_stretch f size e x refl h refl q refl)
                ∙ ap (λ (a : ℕ). Ok (coordinate_on f size e x a)) w.1
                ∙ ap Ok (on_points f size e positive track x w.0),
          )

  -- THEOREM: at each position up to the end the answer is the nearest to the exact one between two neighbouring points.
  pub coordinate_nearest : (x : ℕ) → x ≤ end → (r : Coordinate) × (coordinate_asked f number x ≡ Ok r) × CoordinateAt f size e x r
  coordinate_nearest x h =
      let w = answered x h in
      (onward f size e positive track x w.0, w.2, onward_nearest f size e positive track x w.0 w.1)

  -- THEOREM: no other coordinate is, whichever two neighbouring points are taken.
  pub coordinate_only_one : (x : ℕ) (r : Coordinate) → CoordinateAt f size e x r → coordinate_asked f number x ≡ Ok r
  coordinate_only_one x r c =
      let n = c.between in
      let a = n.ahead in
      let m = position_most f size e positive track (suc c.point) n.in_track in
      let w = answered x (omega arith) in
      w.2 ∙ ap Ok (sym (onward_only f size e positive track x w.0 w.1 r c))

  -- THEOREM: at a stored point the answer is that point's own coordinate.
  pub coordinate_at_point : (j : ℕ) → point_place f size e j ≤ last_of f e → coordinate_asked f number (position_of f (point_place f size e j)) ≡ Ok (point_coordinate f e (point_place f size e j))
  coordinate_at_point j h =
      let x = position_of f (point_place f size e j) in
      let w = answered x (position_most f size e positive track j h) in
      w.2 ∙ ap Ok (onward_point f size e positive track x w.0 w.1 j h refl)

  -- THEOREM: it is refused for the position exactly beyond the end.
  pub position_refused : (x : ℕ) → (coordinate_asked f number x ≡ Err (refusal reason.Position)) ↔ (end < x)
  position_refused x = (
    λ q. ⊎_elim (λ (h : x ≤ end). let w = answered x h in absurd (omega (arith, ap answer_number (ap coordinate_answer (sym q ∙ w.2))))) (λ (h : end < x). h) (le-or-lt x end),
    λ h. on_track_lem x ∙ sym (beyond_end f size e x refl h refl),
  )

-- THEOREM: in a file that obeys it is refused for the track exactly where no track has the number.
pub track_refused : (f : List ℕ) → Obeys f → (number x : ℕ) → (coordinate_asked f number x ≡ Err (refusal reason.Track)) ↔ ((i : ℕ) → i < count_of f → number_at f (entry_place i) ≡ number → ⊥)
track_refused f o number x = (there (find_track f number) refl, λ h. sym (no_track f number x refl ((verdict_obeys f).1 o) refl ((absent_iff f number).1 h) refl))
  where
    there : (s : Option ℕ) → find_track f number ≡ s → coordinate_asked f number x ≡ Err (refusal reason.Track) → (i : ℕ) → i < count_of f → number_at f (entry_place i) ≡ number → ⊥
    there None q g = (absent_iff f number).0 q
    there (Some e) q g =
        ⊎_elim
        (λ (h : x ≤ end_position_of f e). let r = coordinate_nearest f o number e q x h in absurd (omega (arith, ap answer_number (ap coordinate_answer (sym g ∙ r.1)))))
        (λ (h : end_position_of f e < x). let d = (position_refused f o number e q x).1 h in absurd (omega (arith, ap answer_number (ap coordinate_answer (sym g ∙ d)))))
        (le-or-lt x (end_position_of f e))
