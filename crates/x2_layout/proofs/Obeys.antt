-- Every layout fact holds exactly where the layout obeys 01's words.
use Prim.Native.Nat.{ℕ, ◌+◌, ◌-◌, ◌*◌, ◌<◌}
use mathlib.Core.Path.{◌≡◌}
use mathlib.Core.Logic.{◌↔◌}
use mathlib.Core.List.{List, ◌++◌}
use native.Mathlib.Omega.{arith}
use Rattle.octets.specs.Octets.{num_at}
use Rattle.x2_records.specs.Places.{boundary_size}
use Rattle.verdict.specs.Facts.{AllHold}
use Rattle.verdict.proofs.Facts.{all_append, all_each}
use Rattle.x2_layout.specs.declared.Layout.{Layout}
use Rattle.x2_layout.specs.Places.{entry_offset, header_entry_size, start_entries_at, end_entries_at}
use Rattle.x2_layout.specs.Groups.{group_facts}
use Rattle.x2_layout.specs.Facts.{count_layout, indexes, offset_layout, offsets_layout, groups_in, layout_facts}
use Rattle.x2_layout.specs.Obeys.{LayoutObeys}
use Rattle.x2_layout.proofs.Walks.{index_iff}
use Rattle.x2_layout.proofs.Grouped.{groups_iff}

module _ (f : List ℕ) where
  offsets_iff :
      (entries due count : ℕ)
      → AllHold (offsets_layout f entries due count) ↔ ((i : ℕ) → i < count → num_at 2 f (entries + header_entry_size * i + entry_offset) ≡ due + boundary_size * i)
  unfolding offsets_layout AllHold
  offsets_iff entries due count =
      let each = all_each (offset_layout f entries due) (indexes count) in
      (λ h i b. (each.0 h i ((index_iff count i).1 b)).0, λ h. each.1 (λ i m. (h i ((index_iff count i).0 m), tt)))

-- The layout facts hold exactly where the layout obeys.
pub layout_obeyed : (f : List ℕ) (l : Layout) → AllHold (layout_facts f l) ↔ LayoutObeys f l
unfolding layout_facts AllHold
layout_obeyed f l =
    let starts = offsets_layout f start_entries_at l.starts l.n in
    let ends = offsets_layout f (end_entries_at l.n) l.ends l.k in
    let groups = group_facts f (l.turnouts - boundary_size) l.end l.turnouts (groups_in l) in
    let counts = all_append (count_layout f l) (starts ++ (ends ++ groups)) in
    let first = all_append starts (ends ++ groups) in
    let second = all_append ends groups in
    let starts_iff = offsets_iff f start_entries_at l.starts l.n in
    let ends_iff = offsets_iff f (end_entries_at l.n) l.ends l.k in
    let grouped = groups_iff f (l.turnouts - boundary_size) l.end (groups_in l) l.turnouts in (
      λ h.
          let count = counts.0 h in
          let start = first.0 count.1 in
          let end = second.0 start.1 in
          record {
            start_count = count.0.0;
            start_room = let q = count.0.1.0 in omega arith;
            end_count = count.0.1.1.0;
            boundary_room = count.0.1.1.1.0;
            start_offsets = starts_iff.0 start.0;
            end_offsets = ends_iff.0 end.0;
            groups = grouped.0 end.1;
          },
      λ o.
          counts.1 (
            (o.start_count, (let q = o.start_room in omega arith, (o.end_count, (o.boundary_room, tt)))),
            first.1 (starts_iff.1 o.start_offsets, second.1 (ends_iff.1 o.end_offsets, grouped.1 o.groups)),
          ),
    )
