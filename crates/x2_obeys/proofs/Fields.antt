-- The facts of the fields hold exactly where the fields obey, and those of the agreement where the agreement does: kind by kind, and then
-- over the records of a file.
use Prim.Native.Nat.{ℕ, ◌+◌, ◌-◌, ◌*◌, ◌/◌, ◌%◌, ◌≤◌, ◌<◌}
use mathlib.Core.Path.{◌≡◌, refl, ap, sym, subst, ◌∙◌}
use mathlib.Core.Logic.{◌⊎◌, inl, inr, ⊎_elim, ◌↔◌}
use mathlib.Core.List.{List, [], ◌++◌, flat_map, Memᴰ}
use native.Mathlib.Omega.{arith}
use borrow.Author.Tests.{lt-ltb, le-ltb}
use Rattle.octets.specs.Octets.{num_at}
use Rattle.verdict.specs.Facts.{Holds, AllHold}
use Rattle.verdict.proofs.Facts.{all_append, all_each}
use Rattle.verdict.proofs.Orders.{le-or-lt}
use Rattle.names.proofs.Names.{station_name_iff}
use Rattle.rules.specs.Rules.{Between}
use Rattle.tables.specs.Table.{Row}
use Rattle.tables.specs.Rows.{table_facts, TableObeys}
use Rattle.tables.proofs.Rows.{table_iff}
use Rattle.x2_records.specs.declared.Kind.{Kind}
use Rattle.x2_records.specs.declared.Kind.TheVariants as kind
use Rattle.x2_records.specs.Places as place
use Rattle.x2_records.specs.Rows.{balise_table, table_of}
use Rattle.x2_records.specs.Tables.{rank_of}
use Rattle.x2_layout.specs.declared.Layout.{Layout}
use Rattle.x2_layout.specs.Places.{name_at, start_entries_at, end_entries_at}
use Rattle.x2_layout.specs.Records.{kind_at, starts, record_before}
use Rattle.x2_layout.proofs.Before.{before_there, before_only}
use Rattle.x2_fields.specs.Fields.{header_fields, header_track_at, entry_fields, entries_fields, record_fields, field_facts}
use Rattle.x2_kinds.specs.KindFields.{size_byte_of, message_fields, kind_fields}
use Rattle.x2_fields.specs.Agreement.{entry_agrees, entries_agree, group_byte_of, goes_before, kind_agrees, record_agrees, agreement_facts}
use Rattle.x2_obeys.specs.Fields.{MessageEnds, RecordObeys, FieldsObey, rank_at, group_count_at, InSequence, AgreementObeys}
use Rattle.x2_obeys.proofs.Values.{low_bits, indexes_iff}
use Rattle.x2_obeys.proofs.Tables.{start_boundary_table, end_boundary_table, turnout_table_lem, balise_table_lem, signal_table_lem, joint_table_lem, siding_table_lem}

-- ---- the fields of a record

module _ (f : List ℕ) (at : ℕ) where
  -- the last byte of a message, counted from the balise's start
  last_place : 16 < size_byte_of f at → at + place.balise_message + (size_byte_of f at - place.balise_size) - 1 ≡ at + size_byte_of f at - 1
  last_place h = omega arith

  pub message_iff : AllHold (message_fields f at) ↔ MessageEnds f at
  unfolding message_fields AllHold
  message_iff = ⊎_elim small large (le-or-lt (size_byte_of f at) 16)
    where
      small : size_byte_of f at ≤ 16 → AllHold (message_fields f at) ↔ MessageEnds f at
      small s = (λ h l. absurd (omega arith), λ o. rw (le-ltb 16 (size_byte_of f at) s) tt)

      large : 16 < size_byte_of f at → AllHold (message_fields f at) ↔ MessageEnds f at
      large s = (
        λ h l. ap (λ (p : ℕ). num_at 1 f p) (sym (last_place s)) ∙ (rw (lt-ltb 16 (size_byte_of f at) s) at h).0,
        λ o. rw (lt-ltb 16 (size_byte_of f at) s) (ap (λ (p : ℕ). num_at 1 f p) (last_place s) ∙ o s, tt),
      )

  -- a record that has nothing but its table
  alone : (t : List Row) (A : Type 0) → TableObeys f at t ↔ A → AllHold (table_facts f at t ++ []) ↔ A
  unfolding AllHold
  alone t A i =
      let cut = all_append (table_facts f at t) [] in
      let rows = table_iff f at t in
      (λ h. i.0 (rows.0 (cut.0 h).0), λ o. cut.1 (rows.1 (i.1 o), tt))

  -- THEOREM: the facts of a record hold exactly where it obeys.
  pub kind_iff : (k : Kind) → AllHold (kind_fields f k at) ↔ RecordObeys f k at
  unfolding kind_fields
  kind_iff kind.StartBoundary = alone (table_of kind.StartBoundary) (RecordObeys f kind.StartBoundary at) (start_boundary_table f at)
  kind_iff kind.EndBoundary = alone (table_of kind.EndBoundary) (RecordObeys f kind.EndBoundary at) (end_boundary_table f at)
  kind_iff kind.Turnout = alone (table_of kind.Turnout) (RecordObeys f kind.Turnout at) (turnout_table_lem f at)
  kind_iff kind.Balise =
      let cut = all_append (table_facts f at balise_table) (message_fields f at) in
      let rows = table_iff f at balise_table in
      let both = balise_table_lem f at in
      (λ h. both.0 (rows.0 (cut.0 h).0, message_iff.0 (cut.0 h).1), λ o. cut.1 (rows.1 (both.1 o).0, message_iff.1 (both.1 o).1))
  kind_iff kind.Signal = alone (table_of kind.Signal) (RecordObeys f kind.Signal at) (signal_table_lem f at)
  kind_iff kind.Joint = alone (table_of kind.Joint) (RecordObeys f kind.Joint at) (joint_table_lem f at)
  kind_iff kind.Siding = alone (table_of kind.Siding) (RecordObeys f kind.Siding at) (siding_table_lem f at)

-- ---- the fields of a file

-- where the tracks of the header stand
pub start_track : (i : ℕ) → header_track_at start_entries_at i ≡ 24 + 3 * i
start_track i = omega arith

pub end_track : (n j : ℕ) → header_track_at (end_entries_at n) j ≡ 25 + 3 * n + 3 * j
end_track n j = omega arith

entries_iff : (f : List ℕ) (entries count : ℕ) (at : ℕ → ℕ) → ((i : ℕ) → header_track_at entries i ≡ at i)
    → AllHold (entries_fields f entries count) ↔ ((i : ℕ) → i < count → Between 1 255 (num_at 1 f (at i)))
unfolding entries_fields AllHold
entries_iff f entries count at same =
    let each = indexes_iff (entry_fields f entries) count in (
      λ h i l. rw (same i) at (each.0 h i l).0,
      λ o. each.1 (λ i l. (rw (same i) (o i l), tt)),
    )

module _ (f : List ℕ) (l : Layout) where
  -- THEOREM: the facts of check 5 hold exactly where the fields obey.
  pub fields_iff : AllHold (field_facts f l) ↔ FieldsObey f l
  unfolding field_facts AllHold
  fields_iff =
      let first = entries_fields f start_entries_at l.n in
      let second = entries_fields f (end_entries_at l.n) l.k in
      let records = flat_map (record_fields f l) (starts f l) in
      let cut = all_append (header_fields f) (first ++ (second ++ records)) in
      let rest = all_append first (second ++ records) in
      let last = all_append second records in
      let start = entries_iff f start_entries_at l.n (λ i. 24 + 3 * i) start_track in
      let end = entries_iff f (end_entries_at l.n) l.k (λ j. 25 + 3 * l.n + 3 * j) (end_track l.n) in
      let each = all_each (record_fields f l) (starts f l) in
      let name = station_name_iff f name_at in (
        λ h.
            let head = (cut.0 h).0 in
            let more = rest.0 (cut.0 h).1 in
            let most = last.0 more.1 in
            record {
              data_version = head.0;
              station = head.1.0;
              station_name = name.0 head.1.1.0;
              start_tracks = start.0 more.0;
              end_tracks = end.0 most.0;
              each_record = λ at m. (kind_iff f at (kind_at l at)).0 (each.0 most.1 at m);
            },
        λ o. cut.1 (
          (o.data_version, (o.station, (name.1 o.station_name, tt))),
          rest.1 (
            start.1 o.start_tracks,
            last.1 (end.1 o.end_tracks, each.1 (λ at m. (kind_iff f at (kind_at l at)).1 (o.each_record at m))),
          ),
        ),
      )

-- ---- the agreement of a balise

pub rank_is : (f : List ℕ) (at : ℕ) → rank_of (group_byte_of f at) ≡ rank_at f at
rank_is f at = rw (low_bits (num_at 1 f (at + 15)) 8)

-- the record of a kind at b is a balise of the same count and a lower rank
pub record GoesBefore (f : List ℕ) (k : Kind) (b at : ℕ) : Type 0 where
  pub balise : k ≡ kind.Balise
  pub same_count : group_count_at f b ≡ group_count_at f at
  pub lower : rank_at f b < rank_at f at

pub goes_iff : (f : List ℕ) (k : Kind) (b at : ℕ) → Holds (goes_before f k b at) ↔ GoesBefore f k b at
unfolding goes_before
goes_iff f kind.StartBoundary b at = (λ h. absurd (h tt), λ g _. let e = g.balise in let z : ◌≡◌ {A = ℕ} 0 1 = cc in omega arith)
goes_iff f kind.EndBoundary b at = (λ h. absurd (h tt), λ g _. let e = g.balise in let z : ◌≡◌ {A = ℕ} 0 1 = cc in omega arith)
goes_iff f kind.Turnout b at = (λ h. absurd (h tt), λ g _. let e = g.balise in let z : ◌≡◌ {A = ℕ} 0 1 = cc in omega arith)
goes_iff f kind.Balise b at =
    let there = rank_is f b in
    let here = rank_is f at in (
      λ h. record { balise = refl; same_count = h.0; lower = omega (arith, there, here, h.1) },
      λ g. (g.same_count, omega (arith, there, here, g.lower)),
    )
goes_iff f kind.Signal b at = (λ h. absurd (h tt), λ g _. let e = g.balise in let z : ◌≡◌ {A = ℕ} 0 1 = cc in omega arith)
goes_iff f kind.Joint b at = (λ h. absurd (h tt), λ g _. let e = g.balise in let z : ◌≡◌ {A = ℕ} 0 1 = cc in omega arith)
goes_iff f kind.Siding b at = (λ h. absurd (h tt), λ g _. let e = g.balise in let z : ◌≡◌ {A = ℕ} 0 1 = cc in omega arith)

-- a claim that a balise of rank 1 need not meet
pub later_iff : {A B : Type 0} (f : List ℕ) (at : ℕ) → A ↔ B → ((rank_of (group_byte_of f at) ≡ 1) ⊎ A) ↔ (1 < rank_at f at → B)
later_iff {A} {B} f at i =
    let is = rank_is f at in (
      λ h later. ⊎_elim (λ (e : rank_of (group_byte_of f at) ≡ 1). absurd (omega arith)) (λ (a : A). i.0 a) h,
      λ h. ⊎_elim (λ (g : rank_at f at ≤ 1). inl (omega arith)) (λ (g : 1 < rank_at f at). inr (i.1 (h g))) (le-or-lt (rank_at f at) 1),
    )

-- what is asked of a record of a kind, after the one at b
abbrev Asked : List ℕ → Layout → ℕ → Kind → ℕ → Type 0
Asked f l b k at = k ≡ kind.Balise → (rank_at f at ≤ group_count_at f at) × (1 < rank_at f at → GoesBefore f (kind_at l b) b at)

-- a record that is no balise is asked for nothing
nothing_asked : {A B : Type 0} → (A → ⊥) → Unit {0} ↔ (A → B)
nothing_asked n = (λ h a. absurd (n a), λ o. tt)

asked_iff : (f : List ℕ) (l : Layout) (b at : ℕ) (k : Kind) → AllHold (kind_agrees f l b k at) ↔ Asked f l b k at
unfolding kind_agrees AllHold
asked_iff f l b at kind.StartBoundary = nothing_asked (λ e. let z : ◌≡◌ {A = ℕ} 0 1 = cc in omega arith)
asked_iff f l b at kind.EndBoundary = nothing_asked (λ e. let z : ◌≡◌ {A = ℕ} 0 1 = cc in omega arith)
asked_iff f l b at kind.Turnout = nothing_asked (λ e. let z : ◌≡◌ {A = ℕ} 0 1 = cc in omega arith)
asked_iff f l b at kind.Balise =
    let later = later_iff f at (goes_iff f (kind_at l b) b at) in
    let is = rank_is f at in (
      λ h e. (omega (arith, is, h.0), later.0 h.1.0),
      λ o. let w = o refl in (omega (arith, is, w.0), (later.1 w.1, tt)),
    )
asked_iff f l b at kind.Signal = nothing_asked (λ e. let z : ◌≡◌ {A = ℕ} 0 1 = cc in omega arith)
asked_iff f l b at kind.Joint = nothing_asked (λ e. let z : ◌≡◌ {A = ℕ} 0 1 = cc in omega arith)
asked_iff f l b at kind.Siding = nothing_asked (λ e. let z : ◌≡◌ {A = ℕ} 0 1 = cc in omega arith)

-- a balise is not the first record, which is a start boundary
pub not_first : (l : Layout) (at : ℕ) → l.starts < l.ends → kind_at l at ≡ kind.Balise → at ≡ l.starts → ⊥
unfolding kind_at
not_first l at h b e =
    let q : kind.StartBoundary ≡ kind.Balise = rw (lt-ltb at l.ends (omega arith)) at b in
    let z : ◌≡◌ {A = ℕ} 0 1 = cc in
    omega arith

-- of the record directly before
pub sequence_iff : (f : List ℕ) (l : Layout) (at : ℕ) → l.starts < l.ends → Memᴰ at (starts f l) → kind_at l at ≡ kind.Balise
    → GoesBefore f (kind_at l (record_before f l at)) (record_before f l at) at ↔ InSequence f l at
sequence_iff f l at s m k = (
  λ g. record { before = record_before f l at; directly = before_there f l at m (not_first l at s k); balise = g.balise; same_count = g.same_count; lower = g.lower },
  λ q. subst (λ (b : ℕ). GoesBefore f (kind_at l b) b at) (before_only f l at m q.before q.directly) (record { balise = q.balise; same_count = q.same_count; lower = q.lower }),
)

-- ---- the agreement of a file

agree_iff : (f : List ℕ) (entries from count : ℕ) (at : ℕ → ℕ) → ((i : ℕ) → header_track_at entries i ≡ at i)
    → AllHold (entries_agree f entries from count) ↔ ((i : ℕ) → i < count → num_at 1 f (at i) ≡ num_at 1 f (from + 12 * i + 11))
unfolding entries_agree AllHold
agree_iff f entries from count at same =
    let each = indexes_iff (entry_agrees f entries from) count in (
      λ h i l. rw (same i) at (each.0 h i l).0,
      λ o. each.1 (λ i l. (rw (same i) (o i l), tt)),
    )

module _ (f : List ℕ) (l : Layout) (s : l.starts < l.ends) where
  -- THEOREM: the facts of check 7 hold exactly where the agreement does. There is a start boundary, so that a balise has a record before it.
  pub agreement_iff : AllHold (agreement_facts f l) ↔ AgreementObeys f l
  unfolding agreement_facts AllHold
  agreement_iff =
      let first = entries_agree f start_entries_at l.starts l.n in
      let second = entries_agree f (end_entries_at l.n) l.ends l.k in
      let records = flat_map (record_agrees f l) (starts f l) in
      let cut = all_append first (second ++ records) in
      let rest = all_append second records in
      let start = agree_iff f start_entries_at l.starts l.n (λ i. 24 + 3 * i) start_track in
      let end = agree_iff f (end_entries_at l.n) l.ends l.k (λ j. 25 + 3 * l.n + 3 * j) (end_track l.n) in
      let asked : (at : ℕ) → AllHold (record_agrees f l at) ↔ Asked f l (record_before f l at) (kind_at l at) at = λ at. asked_iff f l (record_before f l at) at (kind_at l at) in
      let each = all_each (record_agrees f l) (starts f l) in (
        λ h.
            let more = rest.0 (cut.0 h).1 in
            record {
              start_tracks = start.0 (cut.0 h).0;
              end_tracks = end.0 more.0;
              places = λ at m k. ((asked at).0 (each.0 more.1 at m) k).0;
              members = λ at m w. (sequence_iff f l at s m w.balise).0 (((asked at).0 (each.0 more.1 at m) w.balise).1 w.later);
            },
        λ o. cut.1 (
          start.1 o.start_tracks,
          rest.1 (
            end.1 o.end_tracks,
            each.1 (λ at m. (asked at).1 (λ k. (
              o.places at m k,
              λ later. (sequence_iff f l at s m k).1 (o.members at m (record { balise = k; later = later })),
            ))),
          ),
        ),
      )
