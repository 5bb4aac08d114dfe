-- Where X.1's refusals for agreement are reported: in the first track with a fault, at its number or at its lowest point that does not agree.
use Prim.Native.Nat.{ℕ, suc, zero, ◌+◌, ◌≤◌, ◌<◌}
use mathlib.Core.Path.{◌≡◌, refl, sym, ap, subst, ◌∙◌}
use mathlib.Core.Logic.{◌⊎◌, inl, inr, ◌↔◌}
use mathlib.Core.List.{List, [], flat_map}
use native.Mathlib.Omega.{arith}
use native.Mathlib.Decide.{ℕ_discrete}
use Rattle.octets.specs.Octets.{num_at}
use Rattle.verdict.specs.Facts.{AllHold}
use Rattle.verdict.specs.Order.{InFirst}
use Rattle.verdict.proofs.Steps.{fixed_iff}
use Rattle.refusals.proofs.Sections.{Each, each_if}
use Rattle.refusals.proofs.Places.{Failing, failing_append, failing_each, held_none, one_place, Rises, rises_append, rises_one, rises_starts, Located, located, first-of}
use Rattle.tables.specs.Table.{value_of, signed_of}
use Rattle.x1_records.specs.Places as place
use Rattle.x1_records.specs.Rows as rows
use Rattle.x1_layout.specs.Layout.{count_of, points_at, entries, first_of, last_of, is_first}
use Rattle.x1_verdict.specs.Agreement.{sum_of, number_agrees, opens, rises, closes, point_agrees, points_of, track_agrees, agreement_facts}
use Rattle.x1_obeys.specs.Obeys.{entry_place, point_place, LayoutObeys}
use Rattle.x1_theorems.specs.Faults.{NumberRises, StartAgrees, EndAgrees, PointAgrees, TrackAtFault, number, point}
use Rattle.x1_obeys.proofs.Obeys.{apart_iff, in_track, start_part, end_part, parts_iff, opens_first, rises_later, closes_last, closes_none, before, next_near, numbers_iff}
use Rattle.x1_theorems.proofs.Speaks.{each_point}

-- ---- a point of a track whose last point stands k + 1 sizes after its first

module _ (f : List ℕ) (size e k : ℕ) (positive : 0 < size) (spread : last_of f e ≡ point_place f size e (suc k)) where
  start_iff : (j : ℕ) → AllHold (start_part f size e k positive spread (point_place f size e j)) ↔ StartAgrees f size e j
  unfolding AllHold
  start_iff zero =
      let is = opens_first f size e k positive spread in
      let next = ap (λ (p : ℕ). num_at 1 f p) (next_near f size e k positive spread) in (
        λ h.
            let o : AllHold (opens f size (point_place f size e 0)) = subst AllHold is h in
            record { position = o.0; latitude = o.1.0; longitude = o.1.1.0; near = o.1.1.1.0 ∙ next },
        λ o. subst AllHold (sym is) (o.position, (o.latitude, (o.longitude, (o.near ∙ sym next, tt)))),
      )
  start_iff (suc j) =
      let is = rises_later f size e k positive spread j in
      let prior = before f size e k positive spread j in (
        λ h.
            let r : AllHold (rises f size (point_place f size e (suc j))) = subst AllHold is h in
            subst (λ (p : ℕ). value_of f p rows.position < value_of f (point_place f size e (suc j)) rows.position) prior r.0,
        λ o. subst AllHold (sym is) (subst (λ (p : ℕ). value_of f p rows.position < value_of f (point_place f size e (suc j)) rows.position) (sym prior) o, tt),
      )

  closes_iff : (p : ℕ) → AllHold (closes f e p) ↔ EndAgrees f e p
  unfolding AllHold
  closes_iff p =
      let north = apart_iff (sum_of f e rows.start_latitude p rows.latitude_increment) (signed_of f e rows.end_latitude) in
      let east = apart_iff (sum_of f e rows.start_longitude p rows.longitude_increment) (signed_of f e rows.end_longitude) in (
        λ h. record { position = h.0; latitude = north.0 h.1.0; longitude = east.0 h.1.1.0 },
        λ o. (o.position, (north.1 o.latitude, (east.1 o.longitude, tt))),
      )

  end_iff : (p : ℕ) → AllHold (end_part f size e k positive spread p) ↔ (p ≡ last_of f e → EndAgrees f e p)
  unfolding AllHold
  end_iff p = go (ℕ_discrete p (last_of f e))
    where
      go : Dec (p ≡ last_of f e) → AllHold (end_part f size e k positive spread p) ↔ (p ≡ last_of f e → EndAgrees f e p)
      go (yes q) =
          let is = closes_last f size e k positive spread p q in
          (λ h _. (closes_iff p).0 (subst AllHold is h), λ o. subst AllHold (sym is) ((closes_iff p).1 (o q)))
      go (no n) = (λ h q. absurd (n q), λ o. subst AllHold (sym (closes_none f size e k positive spread p n)) tt)

  pub point_iff : (j : ℕ) → AllHold (point_agrees f size e (point_place f size e j)) ↔ PointAgrees f size e j
  unfolding AllHold
  point_iff j =
      let parts = parts_iff f size e k positive spread (point_place f size e j) in
      let starts = start_iff j in
      let ends = end_iff (point_place f size e j) in (
        λ h. let a = parts.0 h in record { start = starts.0 a.0; latitude = a.1.0.0; longitude = a.1.0.1.0; end = ends.0 a.1.1 },
        λ o. parts.1 (starts.1 o.start, ((o.latitude, (o.longitude, tt)), ends.1 o.end)),
      )

-- ---- the places

module _ (f : List ℕ) (size e : ℕ) where
  point_at : (p : ℕ) → Each (λ c m. m.place ≡ p) (point_agrees f size e p)
  point_at p = each_point f size (λ c m. m.place ≡ p) e p (refl, (refl, (refl, (refl, tt)))) (refl, tt) (refl, (refl, tt)) (refl, (refl, (refl, tt)))

  number_at : Each (λ c m. m.place ≡ e + 0) (number_agrees f e)
  number_at = each_if (λ c m. m.place ≡ e + 0) (is_first e) [] _ tt (refl, tt)

-- ---- track i of a file that is laid out

module _ (f : List ℕ) (size : ℕ) (positive : 0 < size) (laid : LayoutObeys f size) where
  -- the points of every track stand after the entries
  after : (i : ℕ) → i < count_of f → points_at f ≤ first_of f (entry_place i)
  after zero l = omega (arith, laid.first_due)
  after (suc i) l =
      let h = after i (omega arith) in
      let two = laid.two_points i (omega arith) in
      omega (arith, laid.next_due i l, two.1)

  number_iff : (i : ℕ) → AllHold (number_agrees f (entry_place i)) ↔ NumberRises f i
  unfolding AllHold
  number_iff zero = (λ h. tt, λ h. tt)
  number_iff (suc i) = numbers_iff f size positive laid i

  -- p is the start of a point that does not agree
  abbrev PointAt : ℕ → ℕ → Type 0
  PointAt e p = (j : ℕ) × (point_place f size e j ≤ last_of f e) × (p ≡ point_place f size e j) × (PointAgrees f size e j → ⊥)

  points_fail : (i : ℕ) → i < count_of f → (p : ℕ) → Failing (flat_map (point_agrees f size (entry_place i)) (points_of f size (entry_place i))) p ↔ PointAt (entry_place i) p
  unfolding points_of
  points_fail i l p =
      let e = entry_place i in
      let k = (laid.two_points i l).0 in
      let spread = (laid.two_points i l).1 in
      let each = failing_each (point_agrees f size e) (points_of f size e) p in
      let own : (j : ℕ) → Failing (point_agrees f size e (point_place f size e j)) p ↔ ((p ≡ point_place f size e j) × (PointAgrees f size e j → ⊥)) =
      λ j. one_place (point_place f size e j) (point_agrees f size e (point_place f size e j)) (PointAgrees f size e j) (point_at f size e (point_place f size e j)) (point_iff f size e k positive spread j) p
      in (
        λ h.
            let w = each.0 h in
            let j = (fixed_iff size (last_of f e + size) positive (first_of f e) w.0).0 w.1 in
            let below : point_place f size e j.0 < last_of f e + size = omega (arith, j.1, j.2) in
            let x = (own j.0).0 (subst (λ (y : ℕ). Failing (point_agrees f size e y) p) j.1 w.2) in
            (j.0, in_track f size e k positive spread j.0 below, x.0, x.1),
        λ w.
            let at = point_place f size e w.0 in
            each.1 (at, (fixed_iff size (last_of f e + size) positive (first_of f e) at).1 (w.0, refl, omega (arith, w.1)), (own w.0).1 (w.2, w.3)),
      )

  track_fails : (i : ℕ) → i < count_of f → (p : ℕ) → Failing (track_agrees f size (entry_place i)) p ↔ TrackAtFault f size i p
  unfolding track_agrees
  track_fails i l p =
      let e = entry_place i in
      let cut = failing_append (number_agrees f e) (flat_map (point_agrees f size e) (points_of f size e)) p in
      (λ h. there (cut.0 h), λ o. cut.1 (back o))
    where
      numbers : Failing (number_agrees f (entry_place i)) p ↔ ((p ≡ entry_place i + 0) × (NumberRises f i → ⊥))
      numbers = one_place (entry_place i + 0) (number_agrees f (entry_place i)) (NumberRises f i) (number_at f size (entry_place i)) (number_iff i) p

      there : (Failing (number_agrees f (entry_place i)) p ⊎ Failing (flat_map (point_agrees f size (entry_place i)) (points_of f size (entry_place i))) p) → TrackAtFault f size i p
      there (inl x) = let w = numbers.0 x in number w.0 w.1
      there (inr x) = let w = (points_fail i l p).0 x in point w.0 w.1 w.2 w.3

      back : TrackAtFault f size i p → Failing (number_agrees f (entry_place i)) p ⊎ Failing (flat_map (point_agrees f size (entry_place i)) (points_of f size (entry_place i))) p
      back (number e n) = inl (numbers.1 (e, n))
      back (point j h e n) = inr ((points_fail i l p).1 (j, h, e, n))

  -- above every place of track i
  abbrev top : ℕ → ℕ
  top i = first_of f (entry_place i) + last_of f (entry_place i) + size + size

  track_rises : (i : ℕ) → i < count_of f → Rises (entry_place i) (top i) (track_agrees f size (entry_place i))
  unfolding track_agrees points_of
  track_rises i l =
      let e = entry_place i in
      let behind = after i l in
      rises_append e (first_of f e) (top i) (number_agrees f e) (flat_map (point_agrees f size e) (points_of f size e))
      (rises_one (e + 0) e (first_of f e) (number_agrees f e) (number_at f size e) (omega arith) (omega arith))
      (rises_starts (λ _. size) (last_of f e + size) (top i) (point_agrees f size e) (λ p. rises_one p p (p + size) (point_agrees f size e p) (point_at f size e p) (omega arith) (omega arith))
      (first_of f e) (omega arith) (λ p m. let j = (fixed_iff size (last_of f e + size) positive (first_of f e) p).0 m in omega (arith, j.2)))

  -- LAW: a refusal for agreement is in the first track with a fault, at the lowest place of it that is at fault.
  pub agreement_located : Located (agreement_facts f size) (InFirst (count_of f) (TrackAtFault f size))
  unfolding agreement_facts entries
  agreement_located m e =
      let w = first-of place.entry_size (points_at f) place.entries_at (track_agrees f size) m e in
      let i = w.which in
      let l : i < count_of f = omega (arith, w.inside) in
      record {
        which = i;
        counted = l;
        before = λ k h q x. held_none (track_agrees f size (entry_place k)) q (w.before k h) ((track_fails k (omega arith) q).1 x);
        lowest = located (entry_place i) (top i) (track_agrees f size (entry_place i)) (TrackAtFault f size i) (track_rises i l) (track_fails i l) m w.refused;
      }
