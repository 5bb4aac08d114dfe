-- A file is accepted exactly where it obeys: each check's facts hold exactly where its plain statement does, check by check. The facts
-- speak of the starts of a walk; `fixed_iff` turns a start into a count of sizes, so that each fact is read at track i or at point j.
use Prim.Native.Nat.{ℕ, suc, zero, ◌+◌, ◌-◌, ◌*◌, ◌/◌, ◌%◌, ◌≤◌, ◌<◌}
use mathlib.Core.Path.{◌≡◌, refl, sym, ap, subst, ◌∙◌}
use mathlib.Core.Bool.{Bool, true, false, cond}
use mathlib.Core.Logic.{◌↔◌}
use mathlib.Core.List.{List, [], ◌∷◌, ◌++◌, flat_map, Memᴰ}
use lib.ListN.{length}
use lib.Dec.{ltb, eqb}
use lib.IntN.{ℤ, pos, negsuc, nat_abs, ◌+ℤ◌, ◌-ℤ◌, -ℤ-+ℤ_cancel, +ℤ_idl, +ℤ_invr}
use native.Mathlib.Nat.{mul-zero, mul-suc, div-add-mod, mul-mod_right, mul-le-mul_left, lt_of_mul-lt-mul_left}
use native.Mathlib.Omega.{arith}
use borrow.Author.Tests.{lt-ltb, le-ltb, ltb-true, ltb-false, eq-eqb, ne_eqb}
use native.Mathlib.Decide.{ℕ_discrete}
use Rattle.octets.specs.Octets.{num_at}
use Rattle.envelope.specs.Seal.{most_length, seal_facts}
use Rattle.verdict.specs.Facts.{Fact, AllHold}
use Rattle.std.specs.Prelude.{Ok}
use Rattle.verdict.proofs.Facts.{accepted_iff, all_append, all_each}
use Rattle.verdict.proofs.Steps.{fixed_iff}
use Rattle.rules.specs.Rules.{length_between}
use Rattle.tables.specs.Table.{field_place, value_of, signed_of}
use Rattle.tables.specs.Rows.{TableObeys}
use Rattle.tables.proofs.Rows.{table_iff}
use Rattle.x1_records.specs.Places as place
use Rattle.x1_records.specs.Rows as rows
use Rattle.x1_records.proofs.Whole.{size_positive}
use Rattle.x1_layout.specs.Layout.{end_of, count_of, points_at, entries, first_of, last_of, stop_before, due_at, entry_layout, count_layout, stop_layout, layout_facts}
use Rattle.x1_fields.specs.Fields.{header_fields, entry_fields, point_fields}
use Rattle.x1_verdict.specs.Fields.{all_points, field_facts}
use Rattle.x1_verdict.specs.Agreement.{sum_of, number_agrees, opens, rises, stays, closes, point_agrees, points_of, track_agrees, agreement_facts}
use Rattle.x1_verdict.specs.Facts.{file_type, sized_facts, facts_by, judged_by, judged_of}
use Rattle.x1_obeys.specs.Obeys.{Between, structure_of, size_of, entry_place, point_place, LayoutObeys, EntryObeys, PointObeys, FieldsObey, TrackAgrees, AgreementObeys, ObeysBy, Obeys}

-- ---- two signed numbers that are 0 apart

no_distance : (z : ℤ) → nat_abs z ≡ 0 → z ≡ pos 0
no_distance (pos n) e = ap pos e
no_distance (negsuc n) e = absurd (omega arith)

pub apart_iff : (a b : ℤ) → (nat_abs (a -ℤ b) ≡ 0) ↔ (a ≡ b)
apart_iff a b = (
  λ e. sym (-ℤ-+ℤ_cancel a b) ∙ ap (λ (z : ℤ). z +ℤ b) (no_distance (a -ℤ b) e) ∙ +ℤ_idl b,
  λ e. ap (λ (z : ℤ). nat_abs (z -ℤ b)) e ∙ ap nat_abs (+ℤ_invr b),
)

-- ---- each entry, by the track's number in the file

module _ (f : List ℕ) where
  pub entry_start : (i : ℕ) → i < count_of f → Memᴰ (entry_place i) (entries f)
  unfolding entries
  entry_start i h = (fixed_iff place.entry_size (points_at f) (omega arith) place.entries_at (entry_place i)).1 (i, refl, omega arith)

  pub start_entry : (e : ℕ) → Memᴰ e (entries f) → (i : ℕ) × (i < count_of f) × (e ≡ entry_place i)
  unfolding entries
  start_entry e m = let w = (fixed_iff place.entry_size (points_at f) (omega arith) place.entries_at e).0 m in (w.0, omega (arith, w.1, w.2), w.1)

  pub entries_iff : (g : ℕ → List Fact) → AllHold (flat_map g (entries f)) ↔ ((i : ℕ) → i < count_of f → AllHold (g (entry_place i)))
  entries_iff g =
      let each = all_each g (entries f) in (
        λ h i l. each.0 h (entry_place i) (entry_start i l),
        λ h. each.1 (λ e m. let w = start_entry e m in subst (λ (x : ℕ). AllHold (g x)) (sym w.2) (h w.0 w.1)),
      )

-- ---- layout

-- a last offset, of the first one, for points of a size
pub two_iff : (size first last : ℕ) → 0 < size → ((first + size ≤ last) × ((last - first) % size ≡ 0)) ↔ ((k : ℕ) × (last ≡ first + size * suc k))
two_iff size first last positive = (λ h. steps ((last - first) / size) refl h.0 h.1, λ w. back w.0 w.1)
  where
    steps : (n : ℕ) → (last - first) / size ≡ n → first + size ≤ last → (last - first) % size ≡ 0 → (k : ℕ) × (last ≡ first + size * suc k)
    steps zero q h e =
        let d = div-add-mod (last - first) size in
        let z = mul-zero size in
        let s : size * ((last - first) / size) ≡ size * 0 = ap (λ (x : ℕ). size * x) q in
        absurd (omega arith)
    steps (suc k) q h e =
        let d = div-add-mod (last - first) size in
        let s : size * ((last - first) / size) ≡ size * suc k = ap (λ (x : ℕ). size * x) q in
        (k, omega arith)

    back : (k : ℕ) → last ≡ first + size * suc k → (first + size ≤ last) × ((last - first) % size ≡ 0)
    back k e =
        let m = mul-suc size k in
        let s : last - first ≡ size * suc k = omega arith in
        (omega arith, ap (λ (x : ℕ). x % size) s ∙ mul-mod_right size (suc k))

module _ (f : List ℕ) (size : ℕ) (positive : 0 < size) where
  pub due_first : due_at f size (entry_place 0) ≡ points_at f
  unfolding due_at
  due_first = refl

  pub due_next : (i : ℕ) → due_at f size (entry_place (suc i)) ≡ last_of f (entry_place i) + size
  unfolding due_at
  due_next i = rw (le-ltb (entry_place (suc i)) (place.entries_at + place.entry_size) (omega arith)) (ap (λ (p : ℕ). num_at 2 f p + size) (omega arith))

  pub stop_last : (i : ℕ) → suc i ≡ count_of f → stop_before f size (points_at f) ≡ last_of f (entry_place i) + size
  stop_last i e = ap (λ (p : ℕ). num_at 2 f p + size) (omega arith)

  due_iff : ((i : ℕ) → i < count_of f → first_of f (entry_place i) ≡ due_at f size (entry_place i)) → 0 < count_of f
      → (first_of f (entry_place 0) ≡ points_at f) × ((i : ℕ) → suc i < count_of f → first_of f (entry_place (suc i)) ≡ last_of f (entry_place i) + size)
  due_iff h z = (h 0 z ∙ due_first, λ i l. h (suc i) l ∙ due_next i)

  due_back : LayoutObeys f size → (i : ℕ) → i < count_of f → first_of f (entry_place i) ≡ due_at f size (entry_place i)
  due_back o zero l = o.first_due ∙ sym due_first
  due_back o (suc i) l = o.next_due i l ∙ sym (due_next i)

  pub layout_iff : AllHold (layout_facts f size) ↔ LayoutObeys f size
  unfolding layout_facts AllHold
  layout_iff =
      let cut = all_append (count_layout f) (flat_map (entry_layout f size) (entries f) ++ stop_layout f size) in
      let rest = all_append (flat_map (entry_layout f size) (entries f)) (stop_layout f size) in
      let each = entries_iff f (entry_layout f size) in (
        λ h.
            let count = (cut.0 h).0 in
            let more = rest.0 (cut.0 h).1 in
            let track = each.0 more.0 in
            let due = due_iff (λ i l. (track i l).0) count.0.0 in
            record {
              some_track = count.0;
              entries_fit = count.1.0;
              first_due = due.0;
              next_due = due.1;
              two_points = λ i l. (two_iff size (first_of f (entry_place i)) (last_of f (entry_place i)) positive).0 ((track i l).1.0, (track i l).1.1.0);
              points_fit = λ i l. (track i l).1.1.1.0;
              final = λ i e. sym (stop_last i e) ∙ more.1.0;
            },
        λ o. cut.1 (
          (o.some_track, (o.entries_fit, tt)),
          rest.1 (
            each.1 (λ i l.
                let two = (two_iff size (first_of f (entry_place i)) (last_of f (entry_place i)) positive).1 (o.two_points i l) in
                (due_back o i l, (two.0, (two.1, (o.points_fit i l, tt))))),
            (stops o, tt),
          ),
        ),
      )
    where
      stops : LayoutObeys f size → stop_before f size (points_at f) ≡ end_of f
      stops o =
          let z = o.some_track.0 in
          let e : suc (count_of f - 1) ≡ count_of f = omega arith in
          stop_last (count_of f - 1) e ∙ o.final (count_of f - 1) e

-- ---- fields

-- LAW: an entry obeys its table exactly where it obeys in 01's words and numbers.
pub entry_table : (f : List ℕ) (e : ℕ) → TableObeys f e rows.entry_table ↔ EntryObeys f e
unfolding AllHold
entry_table f e =
    let table = table_iff f e rows.entry_table in (
      λ t.
          let h = table.1 t in
          record {
            number = h.0;
            property = h.1.0;
            start_position = h.1.1.0;
            start_latitude = h.1.1.1.0;
            start_longitude = h.1.1.1.1.0;
            end_position = h.1.1.1.1.1.0;
            end_latitude = h.1.1.1.1.1.1.0;
            end_longitude = h.1.1.1.1.1.1.1.0;
          },
      λ o.
          table.0
          (o.number, (o.property, (o.start_position, (o.start_latitude, (o.start_longitude, (o.end_position, (o.end_latitude, (o.end_longitude, tt)))))))),
    )

-- LAW: and so a point.
pub point_table : (f : List ℕ) (p : ℕ) → TableObeys f p rows.point_table ↔ PointObeys f p
unfolding AllHold
point_table f p =
    let table = table_iff f p rows.point_table in (
      λ t. let h = table.1 t in record { position = h.0; heading = h.1.0; near = h.1.1.0 },
      λ o. table.0 (o.position, (o.heading, (o.near, tt))),
    )

entry_iff : (f : List ℕ) (e : ℕ) → AllHold (entry_fields f e) ↔ EntryObeys f e
entry_iff f e = let table = table_iff f e rows.entry_table in let words = entry_table f e in (λ h. words.0 (table.0 h), λ o. table.1 (words.1 o))

point_iff : (f : List ℕ) (p : ℕ) → AllHold (point_fields f p) ↔ PointObeys f p
point_iff f p = let table = table_iff f p rows.point_table in let words = point_table f p in (λ h. words.0 (table.0 h), λ o. table.1 (words.1 o))

module _ (f : List ℕ) (size : ℕ) (positive : 0 < size) where
  points_iff : AllHold (flat_map (point_fields f) (all_points f size)) ↔ ((j : ℕ) → points_at f + size * j < end_of f → PointObeys f (points_at f + size * j))
  unfolding all_points
  points_iff =
      let each = all_each (point_fields f) (all_points f size) in (
        λ h j l. (point_iff f (points_at f + size * j)).0 (each.0 h (points_at f + size * j) ((fixed_iff size (end_of f) positive (points_at f) (points_at f + size * j)).1 (j, refl, l))),
        λ h. each.1 (λ p m.
            let w = (fixed_iff size (end_of f) positive (points_at f) p).0 m in
            let l : points_at f + size * w.0 < end_of f = omega (arith, w.1, w.2) in
            subst (λ (x : ℕ). AllHold (point_fields f x)) (sym w.1) ((point_iff f (points_at f + size * w.0)).1 (h w.0 l))),
      )

  pub fields_iff : AllHold (field_facts f size) ↔ FieldsObey f size
  unfolding field_facts AllHold
  fields_iff =
      let cut = all_append (header_fields f) (flat_map (entry_fields f) (entries f) ++ flat_map (point_fields f) (all_points f size)) in
      let rest = all_append (flat_map (entry_fields f) (entries f)) (flat_map (point_fields f) (all_points f size)) in
      let each = entries_iff f (entry_fields f) in (
        λ h.
            let head = (cut.0 h).0 in
            let more = rest.0 (cut.0 h).1 in
            record {
              data_version = head.0;
              station = head.1.0;
              each_entry = λ i l. (entry_iff f (entry_place i)).0 (each.0 more.0 i l);
              each_point = points_iff.0 more.1;
            },
        λ o. cut.1 (
          (o.data_version, (o.station, tt)),
          rest.1 (each.1 (λ i l. (entry_iff f (entry_place i)).1 (o.each_entry i l)), points_iff.1 o.each_point),
        ),
      )

-- ---- agreement, of a track whose last point stands k + 1 sizes after its first

module _ (f : List ℕ) (size e k : ℕ) (positive : 0 < size) (spread : last_of f e ≡ point_place f size e (suc k)) where
  -- point j is one of the track's points exactly where it is not after the last one
  pub in_track : (j : ℕ) → point_place f size e j < last_of f e + size → point_place f size e j ≤ last_of f e
  in_track j h =
      let a = mul-suc size k in
      let b = mul-suc size (suc k) in
      let l : size * j < size * suc (suc k) = omega arith in
      let n : j ≤ suc k = let q = lt_of_mul-lt-mul_left size l in omega arith in
      let m = mul-le-mul_left size n in
      omega arith

  track_points : (g : ℕ → List Fact) → AllHold (flat_map g (points_of f size e)) ↔ ((j : ℕ) → point_place f size e j ≤ last_of f e → AllHold (g (point_place f size e j)))
  unfolding points_of
  track_points g =
      let each = all_each g (points_of f size e) in (
        λ h j l. each.0 h (point_place f size e j) ((fixed_iff size (last_of f e + size) positive (first_of f e) (point_place f size e j)).1 (j, refl, omega arith)),
        λ h. each.1 (λ p m.
            let w = (fixed_iff size (last_of f e + size) positive (first_of f e) p).0 m in
            let l : point_place f size e w.0 < last_of f e + size = omega (arith, w.1, w.2) in
            subst (λ (x : ℕ). AllHold (g x)) (sym w.1) (h w.0 (in_track w.0 l))),
      )

  -- the three parts of a point's facts
  abbrev pub start_part : ℕ → List Fact
  start_part p = cond (ltb p (first_of f e + size)) (opens f size p) (rises f size p)

  abbrev pub end_part : ℕ → List Fact
  end_part p = cond (eqb p (last_of f e)) (closes f e p) []

  pub parts_iff : (p : ℕ) → AllHold (point_agrees f size e p) ↔ (AllHold (start_part p) × (AllHold (stays f e p) × AllHold (end_part p)))
  parts_iff p =
      let a = all_append (start_part p) (stays f e p ++ end_part p) in
      let b = all_append (stays f e p) (end_part p) in
      (λ h. ((a.0 h).0, b.0 (a.0 h).1), λ h. a.1 (h.0, b.1 h.1))

  pub opens_first : start_part (point_place f size e 0) ≡ opens f size (point_place f size e 0)
  opens_first = let z = mul-zero size in rw (lt-ltb (point_place f size e 0) (first_of f e + size) (omega arith))

  pub rises_later : (j : ℕ) → start_part (point_place f size e (suc j)) ≡ rises f size (point_place f size e (suc j))
  rises_later j = let z = mul-suc size j in rw (le-ltb (point_place f size e (suc j)) (first_of f e + size) (omega arith))

  pub closes_last : (p : ℕ) → p ≡ last_of f e → end_part p ≡ closes f e p
  closes_last p q = rw (eq-eqb p (last_of f e) q)

  pub closes_none : (p : ℕ) → (p ≡ last_of f e → ⊥) → end_part p ≡ []
  closes_none p q = rw (ne_eqb p (last_of f e) q)

  -- the place of the point before point j + 1
  pub before : (j : ℕ) → point_place f size e (suc j) - size ≡ point_place f size e j
  before j = let z = mul-suc size j in omega arith

  first_in : point_place f size e 0 ≤ last_of f e
  first_in = let z = mul-zero size in omega arith

  pub next_near : field_place (point_place f size e 0 + size) rows.near ≡ field_place (point_place f size e 1) rows.near
  next_near = let z = mul-zero size in let s = mul-suc size 0 in omega arith

  track_iff : ((j : ℕ) → point_place f size e j ≤ last_of f e → AllHold (point_agrees f size e (point_place f size e j))) ↔ TrackAgrees f size e
  unfolding AllHold
  track_iff = (there, back)
    where
      there : ((j : ℕ) → point_place f size e j ≤ last_of f e → AllHold (point_agrees f size e (point_place f size e j))) → TrackAgrees f size e
      there h =
          let at : (j : ℕ) → point_place f size e j ≤ last_of f e → AllHold (start_part (point_place f size e j)) × (AllHold (stays f e (point_place f size e j)) × AllHold (end_part (point_place f size e j))) =
          λ j l. (parts_iff (point_place f size e j)).0 (h j l)
          in
          let open_facts : AllHold (opens f size (point_place f size e 0)) = subst AllHold opens_first (at 0 first_in).0 in
          let last : point_place f size e (suc k) ≤ last_of f e = omega arith in
          let shut : AllHold (closes f e (point_place f size e (suc k))) = subst AllHold (closes_last (point_place f size e (suc k)) (sym spread)) (at (suc k) last).1.1 in
          let ends : AllHold (closes f e (last_of f e)) = subst (λ (p : ℕ). AllHold (closes f e p)) (sym spread) shut in
          record {
            first_position = open_facts.0;
            first_latitude = open_facts.1.0;
            first_longitude = open_facts.1.1.0;
            first_near = open_facts.1.1.1.0 ∙ ap (λ (p : ℕ). num_at 1 f p) next_near;
            rising = λ j l.
                let r : AllHold (rises f size (point_place f size e (suc j))) = subst AllHold (rises_later j) (at (suc j) l).0 in
                subst (λ (p : ℕ). value_of f p rows.position < value_of f (point_place f size e (suc j)) rows.position) (before j) r.0;
            latitudes = λ j l. (at j l).1.0.0;
            longitudes = λ j l. (at j l).1.0.1.0;
            last_position = ends.0;
            last_latitude = (apart_iff (sum_of f e rows.start_latitude (last_of f e) rows.latitude_increment) (signed_of f e rows.end_latitude)).0 ends.1.0;
            last_longitude = (apart_iff (sum_of f e rows.start_longitude (last_of f e) rows.longitude_increment) (signed_of f e rows.end_longitude)).0 ends.1.1.0;
          }

      start_held : TrackAgrees f size e → (j : ℕ) → point_place f size e j ≤ last_of f e → AllHold (start_part (point_place f size e j))
      start_held o zero l =
          subst AllHold (sym opens_first) (o.first_position, (o.first_latitude, (o.first_longitude, (o.first_near ∙ sym (ap (λ (p : ℕ). num_at 1 f p) next_near), tt))))
      start_held o (suc j) l =
          subst AllHold (sym (rises_later j)) (
            subst (λ (p : ℕ). value_of f p rows.position < value_of f (point_place f size e (suc j)) rows.position) (sym (before j)) (o.rising j l),
            tt,
          )

      end_held : TrackAgrees f size e → (p : ℕ) → Dec (p ≡ last_of f e) → AllHold (end_part p)
      end_held o p (no n) = subst AllHold (sym (closes_none p n)) tt
      end_held o p (yes q) =
          subst AllHold (sym (closes_last p q)) (subst (λ (x : ℕ). AllHold (closes f e x)) (sym q) (
            o.last_position,
            (
              (apart_iff (sum_of f e rows.start_latitude (last_of f e) rows.latitude_increment) (signed_of f e rows.end_latitude)).1 o.last_latitude,
              ((apart_iff (sum_of f e rows.start_longitude (last_of f e) rows.longitude_increment) (signed_of f e rows.end_longitude)).1 o.last_longitude, tt),
            ),
          ))

      back : TrackAgrees f size e → (j : ℕ) → point_place f size e j ≤ last_of f e → AllHold (point_agrees f size e (point_place f size e j))
      back o j l =
          (parts_iff (point_place f size e j)).1 (
            start_held o j l,
            ((o.latitudes j l, (o.longitudes j l, tt)), end_held o (point_place f size e j) (ℕ_discrete (point_place f size e j) (last_of f e))),
          )

  pub points_agree_iff : AllHold (flat_map (point_agrees f size e) (points_of f size e)) ↔ TrackAgrees f size e
  points_agree_iff = let a = track_points (point_agrees f size e) in let b = track_iff in (λ h. b.0 (a.0 h), λ o. a.1 (b.1 o))

module _ (f : List ℕ) (size : ℕ) (positive : 0 < size) (laid : LayoutObeys f size) where
  -- a later track's number is above the one before it
  pub numbers_iff : (i : ℕ) → AllHold (number_agrees f (entry_place (suc i))) ↔ (value_of f (entry_place i) rows.number < value_of f (entry_place (suc i)) rows.number)
  unfolding AllHold
  numbers_iff i =
      let e : entry_place (suc i) - place.entry_size ≡ entry_place i = omega arith in (
        λ h. subst (λ (p : ℕ). value_of f p rows.number < value_of f (entry_place (suc i)) rows.number) e (rw (le-ltb (entry_place (suc i)) (place.entries_at + place.entry_size) (omega arith)) at h).0,
        λ h. rw (le-ltb (entry_place (suc i)) (place.entries_at + place.entry_size) (omega arith)) (subst (λ (p : ℕ). value_of f p rows.number < value_of f (entry_place (suc i)) rows.number) (sym e) h, tt),
      )

  pub agreement_iff : AllHold (agreement_facts f size) ↔ AgreementObeys f size
  unfolding agreement_facts track_agrees AllHold
  agreement_iff =
      let each = entries_iff f (track_agrees f size) in
      let cut : (i : ℕ) → AllHold (track_agrees f size (entry_place i)) ↔ (AllHold (number_agrees f (entry_place i)) × AllHold (flat_map (point_agrees f size (entry_place i)) (points_of f size (entry_place i)))) =
      λ i. all_append (number_agrees f (entry_place i)) (flat_map (point_agrees f size (entry_place i)) (points_of f size (entry_place i)))
      in
      let points : (i : ℕ) → i < count_of f → AllHold (flat_map (point_agrees f size (entry_place i)) (points_of f size (entry_place i))) ↔ TrackAgrees f size (entry_place i) =
      λ i l. points_agree_iff f size (entry_place i) (laid.two_points i l).0 positive (laid.two_points i l).1
      in (
        λ h. record {
          numbers = λ i l. (numbers_iff i).0 ((cut (suc i)).0 (each.0 h (suc i) l)).0;
          each_track = λ i l. (points i l).0 ((cut i).0 (each.0 h i l)).1;
        },
        λ o. each.1 (λ i l. (cut i).1 (held o i l, (points i l).1 (o.each_track i l))),
      )
    where
      held : AgreementObeys f size → (i : ℕ) → i < count_of f → AllHold (number_agrees f (entry_place i))
      held o zero l = tt
      held o (suc i) l = (numbers_iff i).1 (o.numbers i l)

-- ---- the file

-- the least length in the file's own structure version, of a file that has the least length in any and not more than the most
pub least_iff : (f : List ℕ) → Between place.least_length most_length (length f)
    → Between (place.least_length_in (structure_of f)) most_length (length f) ↔ (2 ≤ structure_of f → 72 ≤ length f)
unfolding place.least_length_in
least_iff f b = go (ltb (structure_of f) place.heights_from) refl
  where
    go : (t : Bool) → ltb (structure_of f) place.heights_from ≡ t
        → Between (cond t place.least_length 72) most_length (length f) ↔ (2 ≤ structure_of f → 72 ≤ length f)
    go true e = (λ h k. let l = ltb-true (structure_of f) place.heights_from e in absurd (omega arith), λ h. b)
    go false e = (λ h k. h.0, λ h. (h (ltb-false (structure_of f) place.heights_from e), b.1))

-- THEOREM (demand 2): an X.1 file is accepted exactly where it obeys, by a reader that knows the structure versions up to the newest.
pub accepted_obeys_by : (newest : ℕ) (f : List ℕ) → (judged_by newest f ≡ Ok tt) ↔ ObeysBy newest f
unfolding facts_by sized_facts AllHold
accepted_obeys_by newest f =
    let size = size_of f in
    let positive = size_positive (structure_of f) in
    let all = accepted_iff (facts_by newest f) in
    let least_fact = length_between f (place.least_length_in (structure_of f)) most_length in
    let sealed = all_append (seal_facts f file_type newest) (least_fact ∷ sized_facts f size) in
    let laid = all_append (layout_facts f size) (field_facts f size ++ agreement_facts f size) in
    let filled = all_append (field_facts f size) (agreement_facts f size) in
    let lay = layout_iff f size positive in
    let fill = fields_iff f size positive in (
      λ e.
          let h = all.0 e in
          let s = sealed.0 h.1 in
          let l = laid.0 s.1.1 in
          let d = filled.0 l.1 in
          record {
            least = h.0.0;
            most = h.0.1;
            checksum = s.0.0;
            file_type = s.0.1.0;
            structure_version = s.0.1.1.0;
            least_with_heights = (least_iff f h.0).0 s.1.0;
            layout = lay.0 l.0;
            fields = fill.0 d.0;
            agreement = (agreement_iff f size positive (lay.0 l.0)).0 d.1;
          },
      λ o. all.1 (
        (o.least, o.most),
        sealed.1 (
          (o.checksum, (o.file_type, (o.structure_version, tt))),
          (
            (least_iff f (o.least, o.most)).1 o.least_with_heights,
            laid.1 (lay.1 o.layout, filled.1 (fill.1 o.fields, (agreement_iff f size positive o.layout).1 o.agreement)),
          ),
        ),
      ),
    )

-- THEOREM (demand 2): an X.1 file is accepted exactly where it obeys.
pub accepted_obeys : (f : List ℕ) → (judged_of f ≡ Ok tt) ↔ Obeys f
accepted_obeys = accepted_obeys_by 2
