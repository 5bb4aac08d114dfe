-- The tables of `records` and the statements of Obeys, which are written apart, say the same: a theorem for each kind of record. And a
-- record's fields are refused at the lowest that is at fault.
use Prim.Native.Nat.{ℕ, ◌+◌, ◌/◌, ◌%◌}
use mathlib.Core.Path.{◌≡◌, refl, sym, subst}
use mathlib.Core.Logic.{⊎_elim, ◌↔◌}
use mathlib.Core.List.Memᴰ
use mathlib.Core.List.{List, [], ◌∷◌, Memᴰ}
use Rattle.octets.specs.Octets.{num_at}
use Rattle.rules.specs.Rules.{Between}
use Rattle.tables.specs.Table.{Row}
use Rattle.tables.specs.Rows.{RowObeys, TableObeys, LowestAtFault}
use Rattle.tables.proofs.Rows.{tiled, RefusedAt, fault_iff}
use Rattle.x2_records.specs.declared.Kind.{Kind}
use Rattle.x2_records.specs.Rows.{boundary_table, turnout_front_track, turnout_normal_track, turnout_reverse_track, turnout_table, balise_table, signal_byte, signal_table, joint_table, siding_table, table_of}
use Rattle.x2_records.specs.Records.{fixed_size}
use Rattle.x2_records.proofs.Whole.{whole}
use Rattle.x2_obeys.specs.Fields.{BoundaryObeys, StartBoundaryObeys, EndBoundaryObeys, TurnoutObeys, MessageEnds, BaliseObeys, SignalObeys, JointObeys, SidingObeys}
use Rattle.x2_obeys.proofs.Values.{two_iff, two_down_iff, most_iff, below_iff, zero_iff, low_bits}

-- each row of a table in turn
abbrev RowsObey : List ℕ → ℕ → List Row → Type 0
RowsObey f at [] = Unit {0}
RowsObey f at (r ∷ rs) = RowObeys f at r × RowsObey f at rs

module _ (f : List ℕ) (at : ℕ) where
  rows_iff : (t : List Row) → TableObeys f at t ↔ RowsObey f at t
  rows_iff [] = (λ o. tt, λ h. record { each = λ r m. absurd (Memᴰ.not-nil m) })
  rows_iff (r ∷ rs) =
      let ih = rows_iff rs in (
        λ o. (o.each r (Memᴰ.head refl), ih.0 (record { each = λ s m. o.each s (Memᴰ.tail m) })),
        λ h. record {
          each = λ s m. ⊎_elim (λ (e : s ≡ r). subst (λ (x : Row). RowObeys f at x) (sym e) h.0) (λ (n : Memᴰ s rs). (ih.1 h.1).each s n) (Memᴰ.cases_cons m);
        },
      )

  -- ---- tables 6 and 7; the neighbour's station and track, and the link, are any

  boundary_table_lem : (low high : ℕ) → TableObeys f at (boundary_table low high) ↔ (Between low high (num_at 1 f (at + 0)) × BoundaryObeys f at)
  boundary_table_lem low high =
      let rows = rows_iff (boundary_table low high) in
      let position = most_iff 2147483647 (num_at 4 f (at + 7)) in (
        λ o.
            let entry = rows.0 o in
            let type = entry.1.1.1 in
            let place = type.1.1 in
            (entry.0, record { neighbour_type = type.0; position = position.0 place.0; track = place.1.0 }),
        λ o. rows.1 (o.0, (tt, (tt, (o.1.neighbour_type, (tt, (position.1 o.1.position, (o.1.track, tt))))))),
      )

  pub start_boundary_table : TableObeys f at (boundary_table 0x00 0x01) ↔ StartBoundaryObeys f at
  start_boundary_table =
      let table = boundary_table_lem 0x00 0x01 in
      let entry = two_iff 0x00 (num_at 1 f (at + 0)) in (
        λ o. record { entry = entry.0 (table.0 o).0; boundary = (table.0 o).1 },
        λ o. table.1 (entry.1 o.entry, o.boundary),
      )

  pub end_boundary_table : TableObeys f at (boundary_table 0xFE 0xFF) ↔ EndBoundaryObeys f at
  end_boundary_table =
      let table = boundary_table_lem 0xFE 0xFF in
      let entry = two_down_iff 0xFE (num_at 1 f (at + 0)) in (
        λ o. record { entry = entry.0 (table.0 o).0; boundary = (table.0 o).1 },
        λ o. table.1 (entry.1 o.entry, o.boundary),
      )

  -- ---- table 8; the three links stand between the positions and the tracks

  pub turnout_table_lem : TableObeys f at turnout_table ↔ TurnoutObeys f at
  turnout_table_lem =
      let rows = rows_iff turnout_table in
      let direction = two_iff 0 (num_at 1 f (at + 2)) in
      let tip = most_iff 2147483647 (num_at 4 f (at + 3)) in
      let normal = most_iff 2147483647 (num_at 4 f (at + 7)) in
      let reverse = most_iff 2147483647 (num_at 4 f (at + 11)) in (
        λ o.
            let entry = rows.0 o in
            let way = entry.1.1 in
            let positions = way.1 in
            let tracks = positions.1.1.1.1.1.1 in
            record {
              entry = entry.0;
              number = entry.1.0;
              direction = direction.0 way.0;
              tip_position = tip.0 positions.0;
              normal_position = normal.0 positions.1.0;
              reverse_position = reverse.0 positions.1.1.0;
              front_track = tracks.0;
              normal_track = tracks.1.0;
              reverse_track = tracks.1.1.0;
            },
        λ o.
            let tracks : RowsObey f at (turnout_front_track ∷ turnout_normal_track ∷ turnout_reverse_track ∷ []) = (o.front_track, (o.normal_track, (o.reverse_track, tt))) in
            rows.1 (
              o.entry,
              (o.number, (direction.1 o.direction, (tip.1 o.tip_position, (normal.1 o.normal_position, (reverse.1 o.reverse_position, (tt, (tt, (tt, tracks)))))))),
            ),
      )

  -- ---- table 9, with the message apart, which no row of the table speaks of

  pub balise_table_lem : (TableObeys f at balise_table × MessageEnds f at) ↔ BaliseObeys f at
  balise_table_lem =
      let rows = rows_iff balise_table in
      let number = below_iff 0xFFFFFE (num_at 3 f (at + 5)) in
      let position = most_iff 2147483647 (num_at 4 f (at + 10)) in
      let group = zero_iff (num_at 1 f (at + 15) / 8 % 4) in (
        λ o.
            let entry = rows.0 o.0 in
            let numbered = entry.1.1.1 in
            let attributed = numbered.1.1 in
            let positioned = attributed.1 in
            record {
              entry = entry.0;
              number = number.0 numbered.0;
              attribute = attributed.0;
              position = position.0 positioned.0;
              track = positioned.1.0;
              group = group.0 positioned.1.1.0.0;
              message = o.1;
            },
        λ o. (
          rows.1 (o.entry, (tt, (tt, (number.1 o.number, (tt, (o.attribute, (position.1 o.position, (o.track, ((group.1 o.group, tt), tt))))))))),
          o.message,
        ),
      )

  -- ---- table 10; the signal byte has three parts

  pub signal_table_lem : TableObeys f at signal_table ↔ SignalObeys f at
  signal_table_lem =
      let rows = rows_iff signal_table in
      let position = most_iff 2147483647 (num_at 4 f (at + 13)) in
      let top = most_iff 2 (num_at 1 f (at + 18) / 64 % 4) in
      let middle = zero_iff (num_at 1 f (at + 18) / 16 % 4) in
      let low = low_bits (num_at 1 f (at + 18)) 16 in (
        λ o.
            let entry = rows.0 o in
            let name = entry.1.1.1 in
            let positioned = name.1 in
            let parts = positioned.1.1.0 in
            record {
              entry = entry.0;
              name = name.0;
              position = position.0 positioned.0;
              track = positioned.1.0;
              top = top.0 parts.0;
              middle = middle.0 parts.1.0;
              low = subst (Between 1 5) low parts.1.1.0;
            },
        λ o.
            let parts : RowObeys f at signal_byte = (top.1 o.top, (middle.1 o.middle, (subst (Between 1 5) (sym low) o.low, tt))) in
            rows.1 (o.entry, (tt, (tt, (o.name, (position.1 o.position, (o.track, (parts, tt))))))),
      )

  -- ---- tables 11 and 12

  pub joint_table_lem : TableObeys f at joint_table ↔ JointObeys f at
  joint_table_lem =
      let rows = rows_iff joint_table in
      let position = most_iff 2147483647 (num_at 4 f (at + 13)) in (
        λ o.
            let entry = rows.0 o in
            let name = entry.1.1.1 in
            record { entry = entry.0; name = name.0; position = position.0 name.1.0; track = name.1.1.0 },
        λ o. rows.1 (o.entry, (tt, (tt, (o.name, (position.1 o.position, (o.track, tt)))))),
      )

  pub siding_table_lem : TableObeys f at siding_table ↔ SidingObeys f at
  siding_table_lem =
      let rows = rows_iff siding_table in (
        λ o.
            let entry = rows.0 o in
            let track = entry.1.1 in
            let up = track.1.1 in
            record { entry = entry.0; name = entry.1.0; track = track.0; up_signal = up.0; down_signal = up.1.1.0 },
        λ o. rows.1 (o.entry, (o.name, (o.track, (tt, (o.up_signal, (tt, (o.down_signal, tt))))))),
      )

  -- ---- THEOREM: the fields of a record of any kind are refused at a place exactly where that is the lowest field at fault.

  pub refused_at : (k : Kind) (p : ℕ) → RefusedAt f at (table_of k) p ↔ LowestAtFault f at (table_of k) p
  refused_at k p = fault_iff f at 0 (fixed_size k) (table_of k) p (tiled 0 (table_of k) (fixed_size k) (whole k))
