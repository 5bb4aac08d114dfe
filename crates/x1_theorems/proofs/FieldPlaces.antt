-- Where X.1's refusals for layout and fields are reported: at the count, at the lowest offset at fault, or where the points stop; at the lowest
-- field that is outside its values.
use Prim.Native.Nat.{ℕ, suc, zero, ◌+◌, ◌-◌, ◌*◌, ◌≤◌, ◌<◌}
use mathlib.Core.Path.{◌≡◌, refl, sym, ap, subst, ◌∙◌}
use mathlib.Core.Logic.{◌⊎◌, inl, inr, ⊎_elim, ◌↔◌}
use mathlib.Core.List.{List, [], ◌∷◌, ◌++◌, flat_map, Memᴰ}
use native.Mathlib.Omega.{arith}
use Rattle.verdict.specs.Facts.{Fact, AllHold}
use Rattle.verdict.specs.Order.{Lowest, Or}
use Rattle.verdict.proofs.Steps.{Stands, fixed_iff}
use Rattle.refusals.proofs.Places.{Failing, failing_append, failing_each, one_place, Rises, rises_append, rises_starts, Located, located, located_or, located_one, Only, only_or}
use Rattle.rules.specs.Rules.{fits}
use Rattle.tables.specs.Table.{field_place}
use Rattle.tables.specs.Rows.{RowAtFault}
use Rattle.x1_records.specs.Places as place
use Rattle.x1_records.specs.Rows as rows
use Rattle.x1_layout.specs.Layout.{end_of, count_of, points_at, entries, first_of, last_of, stop_before, due_at, spread, entry_layout, count_layout, stop_layout, layout_facts}
use Rattle.x1_fields.specs.Fields.{header_table, header_fields, entry_fields, point_fields}
use Rattle.x1_verdict.specs.Fields.{all_points, field_facts}
use Rattle.x1_obeys.specs.Obeys.{Between, entry_place}
use Rattle.x1_theorems.specs.Faults.{CountAtFault, FirstDue, LastRight, OffsetAtFault, first_offset, last_offset, StopsAt, LayoutPlace, FieldAtFault, in_header, in_entry, in_point}
use Rattle.x1_obeys.proofs.Obeys.{entry_start, start_entry, two_iff, due_first, due_next, stop_last}
use Rattle.refusals.proofs.TableFails.{table_fails}

-- ---- by track

module _ (f : List ℕ) (g : ℕ → List Fact) where
  failing_entries : (p : ℕ) → Failing (flat_map g (entries f)) p ↔ ((i : ℕ) × (i < count_of f) × Failing (g (entry_place i)) p)
  failing_entries p =
      let each = failing_each g (entries f) p in (
        λ h. let w = each.0 h in let i = start_entry f w.0 w.1 in (i.0, i.1, subst (λ (x : ℕ). Failing (g x) p) i.2 w.2),
        λ w. each.1 (entry_place w.0, entry_start f w.0 w.1, w.2),
      )

  entries_rise : ((e : ℕ) → Rises e (e + place.entry_size) (g e)) → Rises place.entries_at (points_at f) (flat_map g (entries f))
  unfolding entries
  entries_rise own =
      rises_starts (λ _. place.entry_size) (points_at f) (points_at f) g own place.entries_at (omega arith)
      (λ e m. let i = start_entry f e m in omega (arith, i.1, i.2))

-- ---- layout

module _ (f : List ℕ) (size : ℕ) (positive : 0 < size) where
  count_fails : (p : ℕ) → Failing (count_layout f) p ↔ CountAtFault f p
  unfolding AllHold
  count_fails p = one_place 7 (count_layout f) (Between 1 255 (count_of f) × (points_at f ≤ end_of f)) (refl, (refl, tt)) (λ h. (h.0, h.1.0), λ h. (h.0, (h.1, tt))) p

  first_iff : (i : ℕ) → (first_of f (entry_place i) ≡ due_at f size (entry_place i)) ↔ FirstDue f size i
  first_iff zero = let d = due_first f size positive in (λ e. e ∙ d, λ e. e ∙ sym d)
  first_iff (suc i) = let d = due_next f size positive i in (λ e. e ∙ d, λ e. e ∙ sym d)

  -- the three facts of a last offset
  abbrev last_facts : ℕ → List Fact
  last_facts e = spread f size e ++ (fits e (field_place e rows.last) (rows.last).width (last_of f e + size) (field_place e rows.last) (end_of f) (end_of f) ∷ [])

  last_fails : (e p : ℕ) → Failing (last_facts e) p ↔ ((p ≡ e + 28) × (LastRight f size e → ⊥))
  unfolding AllHold
  last_fails e p =
      let two = two_iff size (first_of f e) (last_of f e) positive in
      one_place (e + 28) (last_facts e) (LastRight f size e) (refl, (refl, (refl, tt)))
      (λ h. (two.0 (h.0, h.1.0), h.1.1.0), λ o. let t = two.1 o.0 in (t.0, (t.1, (o.1, tt)))) p

  offsets_fail : (p : ℕ) → Failing (flat_map (entry_layout f size) (entries f)) p ↔ OffsetAtFault f size p
  offsets_fail p =
      let each = failing_entries f (entry_layout f size) p in
      (λ h. let w = each.0 h in there w.0 w.1 w.2, λ o. each.1 (back o))
    where
      there : (i : ℕ) → i < count_of f → Failing (entry_layout f size (entry_place i)) p → OffsetAtFault f size p
      there i l (inl x) = first_offset i l x.0 (λ d. x.1 ((first_iff i).1 d))
      there i l (inr x) = let w = (last_fails (entry_place i) p).0 x in last_offset i l w.0 w.1

      back : OffsetAtFault f size p → (i : ℕ) × (i < count_of f) × Failing (entry_layout f size (entry_place i)) p
      back (first_offset i l e n) = (i, l, inl (e, λ d. n ((first_iff i).0 d)))
      back (last_offset i l e n) = (i, l, inr ((last_fails (entry_place i) p).1 (e, n)))

  stop_located : AllHold (count_layout f) → Located (stop_layout f size) (StopsAt f size)
  unfolding AllHold
  stop_located count m e =
      let z = count.0.0 in
      let n : suc (count_of f - 1) ≡ count_of f = omega arith in
      (count_of f - 1, n, located_one (stop_before f size (points_at f)) (stop_layout f size) (refl, tt) m e ∙ stop_last f size positive (count_of f - 1) n)

  only_stop : Only (StopsAt f size)
  only_stop p q a b =
      let e : a.0 ≡ b.0 = omega (arith, a.1, b.1) in
      a.2 ∙ ap (λ (i : ℕ). last_of f (entry_place i) + size) e ∙ sym b.2

  pub only_layout : Only (LayoutPlace f size)
  only_layout = only_or (CountAtFault f) (Or (OffsetAtFault f size) (StopsAt f size)) (only_or (OffsetAtFault f size) (StopsAt f size) only_stop)

  -- LAW: a refusal for the layout is where 01 says.
  pub layout_located : Located (layout_facts f size) (LayoutPlace f size)
  unfolding layout_facts
  layout_located =
      let tracks = flat_map (entry_layout f size) (entries f) in
      let offsets = located place.entries_at (points_at f) tracks (OffsetAtFault f size) (entries_rise f (entry_layout f size) (λ e. omega arith)) offsets_fail in
      located_or (count_layout f) (tracks ++ stop_layout f size) (CountAtFault f) (Or (OffsetAtFault f size) (StopsAt f size))
      (located 7 7 (count_layout f) (CountAtFault f) (omega arith) count_fails) count_fails
      (λ count. located_or tracks (stop_layout f size) (OffsetAtFault f size) (StopsAt f size) offsets offsets_fail (λ _. stop_located count))

-- ---- fields

module _ (f : List ℕ) (size : ℕ) (wide : (rows.near).offset + (rows.near).width ≤ size) where
  point_stands : (p : ℕ) → Memᴰ p (all_points f size) ↔ Stands size (end_of f) (points_at f) p
  unfolding all_points
  point_stands p = fixed_iff size (end_of f) (omega arith) (points_at f) p

  -- the facts fail at p in the header, in an entry or in a point
  abbrev Fails : ℕ → Type 0
  Fails p = Failing (header_fields f) p ⊎ (Failing (flat_map (entry_fields f) (entries f)) p ⊎ Failing (flat_map (point_fields f) (all_points f size)) p)

  parts_fail : (p : ℕ) → Failing (field_facts f size) p ↔ Fails p
  unfolding field_facts
  parts_fail p =
      let tracks = flat_map (entry_fields f) (entries f) in
      let points = flat_map (point_fields f) (all_points f size) in
      let cut = failing_append (header_fields f) (tracks ++ points) p in
      let rest = failing_append tracks points p in (
        λ h. ⊎_elim (λ (x : Failing (header_fields f) p). inl x) (λ (x : Failing (tracks ++ points) p). inr (rest.0 x)) (cut.0 h),
        λ h. cut.1 (⊎_elim (λ (x : Failing (header_fields f) p). inl x) (λ (x : Failing tracks p ⊎ Failing points p). inr (rest.1 x)) h),
      )

  fields_fail : (p : ℕ) → Failing (field_facts f size) p ↔ FieldAtFault f size p
  fields_fail p = let cut = parts_fail p in (λ h. there (cut.0 h), λ o. cut.1 (back o))
    where
      there : Fails p → FieldAtFault f size p
      there (inl x) = in_header ((table_fails f 0 header_table p).0 x)
      there (inr (inl x)) = let w = (failing_entries f (entry_fields f) p).0 x in in_entry w.0 w.1 ((table_fails f (entry_place w.0) rows.entry_table p).0 w.2)
      there (inr (inr x)) =
          let w = (failing_each (point_fields f) (all_points f size) p).0 x in
          let j = (point_stands w.0).0 w.1 in
          let y : RowAtFault f w.0 rows.point_table p = (table_fails f w.0 rows.point_table p).0 w.2 in
          in_point j.0 (omega (arith, j.1, j.2)) (subst (λ (x : ℕ). RowAtFault f x rows.point_table p) j.1 y)

      back : FieldAtFault f size p → Fails p
      back (in_header x) = inl ((table_fails f 0 header_table p).1 x)
      back (in_entry i l x) = inr (inl ((failing_entries f (entry_fields f) p).1 (i, l, (table_fails f (entry_place i) rows.entry_table p).1 x)))
      back (in_point j l x) =
          let at = points_at f + size * j in
          inr (inr ((failing_each (point_fields f) (all_points f size) p).1 (at, (point_stands at).1 (j, refl, l), (table_fails f at rows.point_table p).1 x)))

  points_rise : Rises (points_at f) (points_at f + end_of f + size) (flat_map (point_fields f) (all_points f size))
  unfolding all_points
  points_rise =
      rises_starts (λ _. size) (end_of f) (points_at f + end_of f + size) (point_fields f) (λ p. omega arith) (points_at f) (omega arith)
      (λ p m. let j = (fixed_iff size (end_of f) (omega arith) (points_at f) p).0 m in omega (arith, j.2))

  -- LAW: a refusal for a field is at the lowest field that is outside its values.
  pub fields_located : Located (field_facts f size) (Lowest (FieldAtFault f size))
  unfolding field_facts
  fields_located =
      let tracks = flat_map (entry_fields f) (entries f) in
      let points = flat_map (point_fields f) (all_points f size) in
      let top = points_at f + end_of f + size in
      located 0 top (field_facts f size) (FieldAtFault f size)
      (rises_append 0 place.entries_at top (header_fields f) (tracks ++ points) (omega arith)
      (rises_append place.entries_at (points_at f) top tracks points (entries_rise f (entry_fields f) (λ e. omega arith)) points_rise))
      fields_fail
