-- THEOREM: a fact of the fields fails at a place exactly where that is a field at fault, and one of the agreement exactly where the agreement is.
use Prim.Native.Nat.{ℕ, ◌+◌, ◌*◌, ◌≤◌, ◌<◌}
use mathlib.Core.Path.{◌≡◌, refl, sym, subst}
use mathlib.Core.Logic.{◌⊎◌, inl, inr, ⊎_elim, ◌↔◌}
use mathlib.Core.List.{List, ◌++◌, flat_map, Memᴰ}
use native.Mathlib.Omega.{arith}
use Rattle.octets.specs.Octets.{num_at}
use Rattle.verdict.specs.Facts.{Holds, Fact, AllHold}
use Rattle.verdict.proofs.Orders.{le-or-lt}
use Rattle.refusals.proofs.Places.{Failing, failing_append, failing_each, one_place}
use Rattle.rules.specs.Rules.{Between}
use Rattle.names.proofs.Names.{station_name_iff}
use Rattle.tables.specs.Rows.{table_facts, RowAtFault}
use Rattle.x2_records.specs.declared.Kind.{Kind}
use Rattle.x2_records.specs.declared.Kind.TheVariants as kind
use Rattle.x2_records.specs.Rows.{table_of}
use Rattle.x2_records.specs.Tables.{rank_of, group_count_of}
use Rattle.x2_layout.specs.declared.Layout.{Layout}
use Rattle.x2_layout.specs.Places.{name_at, start_entries_at, end_entries_at}
use Rattle.x2_layout.specs.Records.{kind_at, starts, record_before}
use Rattle.x2_fields.specs.Fields.{header_fields, header_track_at, entry_fields, entries_fields, record_fields, field_facts}
use Rattle.x2_kinds.specs.KindFields.{message_fields, message_of, kind_fields}
use Rattle.x2_fields.specs.Agreement.{entry_agrees, entries_agree, group_byte_of, goes_before, kind_agrees, record_agrees, agreement_facts}
use Rattle.x2_obeys.specs.Fields.{MessageEnds, rank_at, group_count_at}
use Rattle.x2_theorems.specs.FieldFaults.{FieldAtFault, data_version, station, station_name, start_track, end_track, in_record, message, AgreementAtFault, start_own, end_own, group, member}
use Rattle.x2_obeys.proofs.Fields.{message_iff, rank_is, GoesBefore, goes_iff, later_iff, sequence_iff, start_track as start-place, end_track as end-place}
use Rattle.refusals.proofs.TableFails.{table_fails}
use Rattle.x2_theorems.proofs.FieldRows.{message_each}
use Rattle.x2_theorems.proofs.BoundaryEntries.{entries_fail}

-- of three lists
in_three : (a b c : List Fact) (p : ℕ) → Failing (a ++ (b ++ c)) p ↔ (Failing a p ⊎ (Failing b p ⊎ Failing c p))
in_three a b c p =
    let first = failing_append a (b ++ c) p in
    let rest = failing_append b c p in (
      λ h. ⊎_elim (λ (x : Failing a p). inl x) (λ (x : Failing (b ++ c) p). inr (rest.0 x)) (first.0 h),
      λ h. first.1 (⊎_elim (λ (x : Failing a p). inl x) (λ (x : Failing b p ⊎ Failing c p). inr (rest.1 x)) h),
    )

-- ---- what only a balise has

abbrev IsBalise : Kind → Type 0
IsBalise kind.StartBoundary = ⊥
IsBalise kind.EndBoundary = ⊥
IsBalise kind.Turnout = ⊥
IsBalise kind.Balise = Unit {0}
IsBalise kind.Signal = ⊥
IsBalise kind.Joint = ⊥
IsBalise kind.Siding = ⊥

-- another kind has no such fault
nowhere : (k : Kind) (A : Type 0) → (IsBalise k → ⊥) → ⊥ ↔ ((k ≡ kind.Balise) × A)
nowhere k A n = (λ x. absurd x, λ w. n (subst IsBalise (sym w.0) tt))

-- ---- fields

module _ (f : List ℕ) (at p : ℕ) where
  abbrev Unended : Type 0
  Unended = (p ≡ at + 16) × (MessageEnds f at → ⊥)

  message_fails : (k : Kind) → Failing (message_of f k at) p ↔ ((k ≡ kind.Balise) × Unended)
  message_fails kind.StartBoundary = nowhere kind.StartBoundary Unended (λ x. x)
  message_fails kind.EndBoundary = nowhere kind.EndBoundary Unended (λ x. x)
  message_fails kind.Turnout = nowhere kind.Turnout Unended (λ x. x)
  message_fails kind.Balise =
      let one = one_place (at + 16) (message_fields f at) (MessageEnds f at) (message_each f (λ c m. m.place ≡ at + 16) at (refl, tt) kind.Balise) (message_iff f at) p in
      (λ h. (refl, one.0 h), λ w. one.1 w.1)
  message_fails kind.Signal = nowhere kind.Signal Unended (λ x. x)
  message_fails kind.Joint = nowhere kind.Joint Unended (λ x. x)
  message_fails kind.Siding = nowhere kind.Siding Unended (λ x. x)

  record_fails : (k : Kind) → Failing (kind_fields f k at) p ↔ (RowAtFault f at (table_of k) p ⊎ ((k ≡ kind.Balise) × Unended))
  unfolding kind_fields
  record_fails k =
      let cut = failing_append (table_facts f at (table_of k)) (message_of f k at) p in
      let rows = table_fails f at (table_of k) p in
      let last = message_fails k in (
        λ h. ⊎_elim (λ (x : Failing (table_facts f at (table_of k)) p). inl (rows.0 x)) (λ (x : Failing (message_of f k at) p). inr (last.0 x)) (cut.0 h),
        λ h. cut.1 (⊎_elim (λ (x : RowAtFault f at (table_of k) p). inl (rows.1 x)) (λ (x : (k ≡ kind.Balise) × Unended). inr (last.1 x)) h),
      )

-- the header's tracks
tracks-fail : (f : List ℕ) (entries count : ℕ) (at : ℕ → ℕ) → ((i : ℕ) → header_track_at entries i ≡ at i)
    → (p : ℕ) → Failing (entries_fields f entries count) p ↔ ((i : ℕ) × (i < count) × (p ≡ at i) × (Between 1 255 (num_at 1 f (at i)) → ⊥))
unfolding entries_fields AllHold
tracks-fail f entries count at same =
    entries_fail (entry_fields f entries) count at (λ i. Between 1 255 (num_at 1 f (at i))) (λ i. (same i, tt)) (λ i. (λ h. rw (same i) at h.0, λ o. (rw (same i) o, tt)))

module _ (f : List ℕ) (l : Layout) (p : ℕ) where
  pub fields_fail : Failing (field_facts f l) p ↔ FieldAtFault f l p
  unfolding field_facts
  fields_fail = (there, back)
    where
      first : List Fact
      first = entries_fields f start_entries_at l.n

      second : List Fact
      second = entries_fields f (end_entries_at l.n) l.k

      records : List Fact
      records = flat_map (record_fields f l) (starts f l)

      cut : Failing (first ++ (second ++ records)) p ↔ (Failing first p ⊎ (Failing second p ⊎ Failing records p))
      cut = in_three first second records p

      start : Failing first p ↔ ((i : ℕ) × (i < l.n) × (p ≡ 24 + 3 * i) × (Between 1 255 (num_at 1 f (24 + 3 * i)) → ⊥))
      start = tracks-fail f start_entries_at l.n (λ i. 24 + 3 * i) start-place p

      end : Failing second p ↔ ((j : ℕ) × (j < l.k) × (p ≡ 25 + 3 * l.n + 3 * j) × (Between 1 255 (num_at 1 f (25 + 3 * l.n + 3 * j)) → ⊥))
      end = tracks-fail f (end_entries_at l.n) l.k (λ j. 25 + 3 * l.n + 3 * j) (end-place l.n) p

      each : Failing records p ↔ ((at : ℕ) × Memᴰ at (starts f l) × Failing (record_fields f l at) p)
      each = failing_each (record_fields f l) (starts f l) p

      in_records : Failing records p → FieldAtFault f l p
      in_records h =
          let w = each.0 h in
          ⊎_elim (λ (x : RowAtFault f w.0 (table_of (kind_at l w.0)) p). in_record w.0 w.1 x)
          (λ (x : (kind_at l w.0 ≡ kind.Balise) × Unended f w.0 p). message w.0 w.1 x.0 x.1.0 x.1.1)
          ((record_fails f w.0 p (kind_at l w.0)).0 w.2)

      after : Failing first p ⊎ (Failing second p ⊎ Failing records p) → FieldAtFault f l p
      after (inl x) = let w = start.0 x in start_track w.0 w.1 w.2 w.3
      after (inr (inl x)) = let w = end.0 x in end_track w.0 w.1 w.2 w.3
      after (inr (inr x)) = in_records x

      there : Failing (header_fields f ++ (first ++ (second ++ records))) p → FieldAtFault f l p
      there (inl x) = data_version x.0 x.1
      there (inr (inl x)) = station x.0 x.1
      there (inr (inr (inl x))) = station_name x.0 (λ o. x.1 ((station_name_iff f name_at).1 o))
      there (inr (inr (inr x))) = after (cut.0 x)

      back : FieldAtFault f l p → Failing (header_fields f ++ (first ++ (second ++ records))) p
      back (data_version e n) = inl (e, n)
      back (station e n) = inr (inl (e, n))
      back (station_name e n) = inr (inr (inl (e, λ o. n ((station_name_iff f name_at).0 o))))
      back (start_track i h e n) = inr (inr (inr (cut.1 (inl (start.1 (i, h, e, n))))))
      back (end_track j h e n) = inr (inr (inr (cut.1 (inr (inl (end.1 (j, h, e, n)))))))
      back (in_record at m x) = inr (inr (inr (cut.1 (inr (inr (each.1 (at, m, (record_fails f at p (kind_at l at)).1 (inl x))))))))
      back (message at m k e n) = inr (inr (inr (cut.1 (inr (inr (each.1 (at, m, (record_fails f at p (kind_at l at)).1 (inr (k, (e, n))))))))))

-- ---- agreement

module _ (f : List ℕ) (l : Layout) (b at p : ℕ) where
  -- the rank in the group byte is above the count, or is above 1 after a record that does not go before it
  abbrev Ranked : Type 0
  Ranked = (group_count_at f at < rank_at f at) ⊎ ((1 < rank_at f at) × (GoesBefore f (kind_at l b) b at → ⊥))

  abbrev AtGroup : Type 0
  AtGroup = (p ≡ at + 15) × Ranked

  -- of a balise
  above_fails : (rank_of (group_byte_of f at) ≤ group_count_of (group_byte_of f at) → ⊥) ↔ (group_count_at f at < rank_at f at)
  above_fails =
      let is = rank_is f at in (
        λ n. ⊎_elim (λ (h : rank_at f at ≤ group_count_at f at). absurd (n (omega arith))) (λ (h : group_count_at f at < rank_at f at). h) (le-or-lt (rank_at f at) (group_count_at f at)),
        λ h o. omega arith,
      )

  later_fails : (((rank_of (group_byte_of f at) ≡ 1) ⊎ Holds (goes_before f (kind_at l b) b at)) → ⊥) ↔ ((1 < rank_at f at) × (GoesBefore f (kind_at l b) b at → ⊥))
  later_fails =
      let later = later_iff f at (goes_iff f (kind_at l b) b at) in (
        λ n. (
          ⊎_elim (λ (h : rank_at f at ≤ 1). absurd (n (later.1 (λ g. absurd (omega arith))))) (λ (h : 1 < rank_at f at). h) (le-or-lt (rank_at f at) 1),
          λ g. n (later.1 (λ _. g)),
        ),
        λ w h. w.1 (later.0 h w.0),
      )

  rank_fails : (k : Kind) → Failing (kind_agrees f l b k at) p ↔ ((k ≡ kind.Balise) × AtGroup)
  unfolding kind_agrees
  rank_fails kind.StartBoundary = nowhere kind.StartBoundary AtGroup (λ x. x)
  rank_fails kind.EndBoundary = nowhere kind.EndBoundary AtGroup (λ x. x)
  rank_fails kind.Turnout = nowhere kind.Turnout AtGroup (λ x. x)
  rank_fails kind.Balise = (there, λ w. back w.1.0 w.1.1)
    where
      there : Failing (kind_agrees f l b kind.Balise at) p → (kind.Balise ≡ kind.Balise) × AtGroup
      there (inl x) = (refl, (x.0, inl (above_fails.0 x.1)))
      there (inr (inl x)) = (refl, (x.0, inr (later_fails.0 x.1)))
      there (inr (inr x)) = absurd x

      back : p ≡ at + 15 → Ranked → Failing (kind_agrees f l b kind.Balise at) p
      back e (inl h) = inl (e, above_fails.1 h)
      back e (inr h) = inr (inl (e, later_fails.1 h))
  rank_fails kind.Signal = nowhere kind.Signal AtGroup (λ x. x)
  rank_fails kind.Joint = nowhere kind.Joint AtGroup (λ x. x)
  rank_fails kind.Siding = nowhere kind.Siding AtGroup (λ x. x)

-- the boundaries' own tracks
own_fail : (f : List ℕ) (entries from count : ℕ) (at : ℕ → ℕ) → ((i : ℕ) → header_track_at entries i ≡ at i)
    → (p : ℕ) → Failing (entries_agree f entries from count) p ↔ ((i : ℕ) × (i < count) × (p ≡ at i) × (num_at 1 f (at i) ≡ num_at 1 f (from + 12 * i + 11) → ⊥))
unfolding entries_agree AllHold
own_fail f entries from count at same =
    entries_fail (entry_agrees f entries from) count at (λ i. num_at 1 f (at i) ≡ num_at 1 f (from + 12 * i + 11)) (λ i. (same i, tt))
    (λ i. (λ h. rw (same i) at h.0, λ o. (rw (same i) o, tt)))

module _ (f : List ℕ) (l : Layout) (s : l.starts < l.ends) (p : ℕ) where
  pub agreement_fail : Failing (agreement_facts f l) p ↔ AgreementAtFault f l p
  unfolding agreement_facts
  agreement_fail = (λ h. there (cut.0 h), λ o. cut.1 (back o))
    where
      first : List Fact
      first = entries_agree f start_entries_at l.starts l.n

      second : List Fact
      second = entries_agree f (end_entries_at l.n) l.ends l.k

      records : List Fact
      records = flat_map (record_agrees f l) (starts f l)

      cut : Failing (first ++ (second ++ records)) p ↔ (Failing first p ⊎ (Failing second p ⊎ Failing records p))
      cut = in_three first second records p

      start : Failing first p ↔ ((i : ℕ) × (i < l.n) × (p ≡ 24 + 3 * i) × (num_at 1 f (24 + 3 * i) ≡ num_at 1 f (l.starts + 12 * i + 11) → ⊥))
      start = own_fail f start_entries_at l.starts l.n (λ i. 24 + 3 * i) start-place p

      end : Failing second p ↔ ((j : ℕ) × (j < l.k) × (p ≡ 25 + 3 * l.n + 3 * j) × (num_at 1 f (25 + 3 * l.n + 3 * j) ≡ num_at 1 f (l.ends + 12 * j + 11) → ⊥))
      end = own_fail f (end_entries_at l.n) l.ends l.k (λ j. 25 + 3 * l.n + 3 * j) (end-place l.n) p

      each : Failing records p ↔ ((at : ℕ) × Memᴰ at (starts f l) × Failing (record_agrees f l at) p)
      each = failing_each (record_agrees f l) (starts f l) p

      there : Failing first p ⊎ (Failing second p ⊎ Failing records p) → AgreementAtFault f l p
      there (inl x) = let w = start.0 x in start_own w.0 w.1 w.2 w.3
      there (inr (inl x)) = let w = end.0 x in end_own w.0 w.1 w.2 w.3
      there (inr (inr x)) =
          let w = each.0 x in
          let v = (rank_fails f l (record_before f l w.0) w.0 p (kind_at l w.0)).0 w.2 in
          ⊎_elim (λ (h : group_count_at f w.0 < rank_at f w.0). group w.0 w.1 v.0 v.1.0 h)
          (λ (h : (1 < rank_at f w.0) × (GoesBefore f (kind_at l (record_before f l w.0)) (record_before f l w.0) w.0 → ⊥)).
          member w.0 w.1 (record { balise = v.0; later = h.0 }) v.1.0 (λ q. h.1 ((sequence_iff f l w.0 s w.1 v.0).1 q)))
          v.1.1

      back : AgreementAtFault f l p → Failing first p ⊎ (Failing second p ⊎ Failing records p)
      back (start_own i h e n) = inl (start.1 (i, h, e, n))
      back (end_own j h e n) = inr (inl (end.1 (j, h, e, n)))
      back (group at m k e n) = inr (inr (each.1 (at, m, (rank_fails f l (record_before f l at) at p (kind_at l at)).1 (k, (e, inl n)))))
      back (member at m w e n) =
          inr (inr (each.1 (at, m, (rank_fails f l (record_before f l at) at p (kind_at l at)).1 (w.balise, (e, inr (w.later, λ g. n ((sequence_iff f l at s m w.balise).0 g)))))))
