-- Where a refusal for layout is reported, in 01's order.
use Prim.Native.Nat.{ℕ, ◌+◌, ◌-◌, ◌*◌, ◌≤◌, ◌<◌}
use mathlib.Core.Path.{◌≡◌, refl, sym, subst}
use mathlib.Core.Logic.{◌⊎◌, inl, inr, ⊎_elim, ◌↔◌}
use mathlib.Core.List.{List, ◌++◌}
use lib.ListN.{take, drop}
use native.Mathlib.Nat.{le_refl}
use native.Mathlib.Omega.{arith}
use Rattle.octets.specs.Octets.{num_at}
use Rattle.verdict.specs.Facts.{Fact, AllHold}
use Rattle.verdict.specs.Order.{Lowest, Or}
use Rattle.refusals.proofs.Places.{Failing, failing_append, one_place, Rises, Located, located, located_or, Only, only_or}
use Rattle.rules.specs.Rules.{Between}
use Rattle.x2_records.specs.Places.{boundary_size}
use Rattle.x2_layout.specs.declared.Layout.{Layout}
use Rattle.x2_layout.specs.Places.{start_count_at, entry_offset, header_entry_size, start_entries_at, end_count_at, end_entries_at}
use Rattle.x2_layout.specs.Groups.{group_facts}
use Rattle.x2_layout.specs.Facts.{count_layout, offset_layout, offsets_layout, groups_in, layout_facts}
use Rattle.x2_theorems.specs.LayoutFaults.{CountAtFault, start_count, end_count, OffsetAtFault, GroupsPlace, LayoutPlace}
use Rattle.x2_theorems.proofs.BoundaryEntries.{entries_fail, entries_rise}
use Rattle.x2_theorems.proofs.GroupPlaces.{groups_located, only_groups}

-- ---- the counts: two facts at n's place, then two at k's

module _ (f : List ℕ) (l : Layout) where
  abbrev n_facts : List Fact
  n_facts = take 2 (count_layout f l)

  abbrev k_facts : List Fact
  k_facts = drop 2 (count_layout f l)

  n_fails : (p : ℕ) → Failing n_facts p ↔ ((p ≡ start_count_at) × (Between 1 255 (num_at 1 f start_count_at) × (end_count_at l.n < l.end) → ⊥))
  unfolding AllHold
  n_fails p =
      one_place start_count_at n_facts (Between 1 255 (num_at 1 f start_count_at) × (end_count_at l.n < l.end)) (refl, (refl, tt))
      (λ h. (h.0, let q = h.1.0 in omega arith), λ o. (o.0, (let q = o.1 in omega arith, tt))) p

  k_fails : (p : ℕ) → Failing k_facts p ↔ ((p ≡ end_count_at l.n) × (Between 1 255 (num_at 1 f (end_count_at l.n)) × (l.turnouts ≤ l.end) → ⊥))
  unfolding AllHold
  k_fails p =
      one_place (end_count_at l.n) k_facts (Between 1 255 (num_at 1 f (end_count_at l.n)) × (l.turnouts ≤ l.end)) (refl, (refl, tt))
      (λ h. (h.0, h.1.0), λ o. (o.0, (o.1, tt))) p

  pub counts_fail : (p : ℕ) → Failing (count_layout f l) p ↔ CountAtFault f l p
  counts_fail p =
      let cut = failing_append n_facts k_facts p in (
        λ h. ⊎_elim (λ (x : Failing n_facts p). let w = (n_fails p).0 x in start_count w.0 w.1) (λ (x : Failing k_facts p). let w = (k_fails p).0 x in end_count w.0 w.1) (cut.0 h),
        λ o. cut.1 (back o),
      )
    where
      back : CountAtFault f l p → Failing n_facts p ⊎ Failing k_facts p
      back (start_count e n) = inl ((n_fails p).1 (e, n))
      back (end_count e n) = inr ((k_fails p).1 (e, n))

  counts_located : Located (count_layout f l) (Lowest (CountAtFault f l))
  counts_located = located start_count_at (end_count_at l.n) (count_layout f l) (CountAtFault f l) (omega arith) counts_fail

-- ---- the offsets

module _ (f : List ℕ) (entries due count : ℕ) where
  -- the field of an entry's offset, and what is due there
  abbrev offset_at : ℕ → ℕ
  offset_at i = entries + header_entry_size * i + entry_offset

  abbrev Due : ℕ → ℕ → Type 0
  Due i p = num_at 2 f p ≡ due + boundary_size * i

  pub offsets_fail : (p : ℕ) → Failing (offsets_layout f entries due count) p ↔ OffsetAtFault f entries due count p
  unfolding offsets_layout AllHold
  offsets_fail p =
      let each = entries_fail (offset_layout f entries due) count offset_at (λ i. Due i (offset_at i)) (λ i. (refl, tt)) (λ i. (λ h. h.0, λ h. (h, tt))) p in (
        λ h. let w = each.0 h in record { which = w.0; counted = w.1; stands = w.2; fails = λ e. w.3 (subst (Due w.0) w.2 e) },
        λ w. each.1 (w.which, w.counted, w.stands, λ e. w.fails (subst (Due w.which) (sym w.stands) e)),
      )

  offsets_rise : Rises (entries + header_entry_size * 0) (entries + header_entry_size * count) (offsets_layout f entries due count)
  unfolding offsets_layout
  offsets_rise = entries_rise (λ i. entries + header_entry_size * i) (offset_layout f entries due) (λ i. omega arith) count (entries + header_entry_size * count) (le_refl (entries + header_entry_size * count))

  offsets_located : Located (offsets_layout f entries due count) (Lowest (OffsetAtFault f entries due count))
  offsets_located = located (entries + header_entry_size * 0) (entries + header_entry_size * count) (offsets_layout f entries due count) (OffsetAtFault f entries due count) offsets_rise offsets_fail

-- ---- all of them

module _ (f : List ℕ) (l : Layout) where
  -- THEOREM
  pub layout_located : Located (layout_facts f l) (LayoutPlace f l)
  unfolding layout_facts
  layout_located =
      let starts = offsets_layout f start_entries_at l.starts l.n in
      let ends = offsets_layout f (end_entries_at l.n) l.ends l.k in
      let groups = group_facts f (l.turnouts - boundary_size) l.end l.turnouts (groups_in l) in
      let S = OffsetAtFault f start_entries_at l.starts l.n in
      let E = OffsetAtFault f (end_entries_at l.n) l.ends l.k in
      let G = GroupsPlace f l.end l.turnouts (groups_in l) in
      located_or (count_layout f l) (starts ++ (ends ++ groups)) (CountAtFault f l) (Or S (Or E G)) (counts_located f l) (counts_fail f l) (λ _.
      located_or starts (ends ++ groups) S (Or E G) (offsets_located f start_entries_at l.starts l.n) (offsets_fail f start_entries_at l.starts l.n) (λ _.
      located_or ends groups E G (offsets_located f (end_entries_at l.n) l.ends l.k) (offsets_fail f (end_entries_at l.n) l.ends l.k) (λ _.
      groups_located f (l.turnouts - boundary_size) l.end (groups_in l) l.turnouts)))

  -- THEOREM: no two places are so.
  pub only_layout : Only (LayoutPlace f l)
  only_layout =
      let S = OffsetAtFault f start_entries_at l.starts l.n in
      let E = OffsetAtFault f (end_entries_at l.n) l.ends l.k in
      let G = GroupsPlace f l.end l.turnouts (groups_in l) in
      only_or (CountAtFault f l) (Or S (Or E G)) (only_or S (Or E G) (only_or E G (only_groups f l.end (groups_in l) l.turnouts)))
