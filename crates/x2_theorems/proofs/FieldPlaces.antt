-- THEOREM: a refusal for fields is at the lowest field at fault, and one for agreement at the lowest place where the agreement is. The facts
-- stand in byte order: the header, its tracks, then record by record without gaps.
use Prim.Native.Nat.{ℕ, ◌+◌, ◌*◌, ◌≤◌}
use mathlib.Core.Path.{◌≡◌, refl}
use mathlib.Core.List.{List, ◌++◌, flat_map}
use native.Mathlib.Omega.{arith}
use Rattle.verdict.specs.Facts.{Fact}
use Rattle.verdict.specs.Order.{Lowest}
use Rattle.verdict.proofs.Walk.{reach_le}
use Rattle.refusals.proofs.Places.{Rises, rises_append, rises_starts, rises_one, Located, located}
use Rattle.tables.specs.Rows.{table_facts}
use Rattle.tables.proofs.Rows.{tiled}
use Rattle.x2_records.specs.declared.Kind.{Kind}
use Rattle.x2_records.specs.declared.Kind.TheVariants as kind
use Rattle.x2_records.specs.Places as place
use Rattle.x2_records.specs.Rows.{table_of}
use Rattle.x2_records.specs.Records.{fixed_size}
use Rattle.x2_records.proofs.Whole.{whole}
use Rattle.x2_layout.specs.declared.Layout.{Layout}
use Rattle.x2_layout.specs.Places.{start_entries_at, end_entries_at, header_entry_size}
use Rattle.x2_layout.specs.Facts.{balise_bytes}
use Rattle.x2_layout.specs.Records.{kind_at, size_of, size_at, starts, record_before}
use Rattle.x2_layout.specs.inner.Regions.{Regions}
use Rattle.x2_layout.proofs.Regions.{some_boundary}
use Rattle.x2_layout.proofs.Starts.{reach_stop, start_fits}
use Rattle.x2_fields.specs.Fields.{header_fields, entry_fields, entries_fields, record_fields, field_facts}
use Rattle.x2_kinds.specs.KindFields.{message_fields, message_of, kind_fields}
use Rattle.x2_fields.specs.Agreement.{entry_agrees, entries_agree, kind_agrees, record_agrees, agreement_facts}
use Rattle.x2_theorems.specs.FieldFaults.{FieldAtFault, AgreementAtFault}
use Rattle.refusals.proofs.TableFails.{table_rises}
use Rattle.x2_theorems.proofs.FieldRows.{message_each}
use Rattle.x2_theorems.proofs.BoundaryEntries.{entries_rise}
use Rattle.x2_theorems.proofs.FieldFails.{fields_fail, agreement_fail}

-- ---- a record's places rise inside it

module _ (f : List ℕ) (at : ℕ) where
  message_rises : (k : Kind) → Rises (at + fixed_size k) (at + size_of f k at) (message_of f k at)
  unfolding size_of balise_bytes
  message_rises kind.StartBoundary = omega arith
  message_rises kind.EndBoundary = omega arith
  message_rises kind.Turnout = omega arith
  message_rises kind.Balise =
      rises_one (at + place.balise_message) (at + place.balise_size) (at + balise_bytes f at) (message_fields f at)
      (message_each f (λ c m. m.place ≡ at + place.balise_message) at (refl, tt) kind.Balise) (omega arith) (omega arith)
  message_rises kind.Signal = omega arith
  message_rises kind.Joint = omega arith
  message_rises kind.Siding = omega arith

  fields_rise : (k : Kind) → Rises at (at + size_of f k at) (kind_fields f k at)
  unfolding kind_fields
  fields_rise k =
      rises_append at (at + fixed_size k) (at + size_of f k at) (table_facts f at (table_of k)) (message_of f k at)
      (table_rises f at at (omega arith) (tiled 0 (table_of k) (fixed_size k) (whole k))) (message_rises k)

  rank_rises : (l : Layout) (b : ℕ) (k : Kind) → Rises at (at + size_of f k at) (kind_agrees f l b k at)
  unfolding kind_agrees size_of balise_bytes
  rank_rises l b kind.StartBoundary = omega arith
  rank_rises l b kind.EndBoundary = omega arith
  rank_rises l b kind.Turnout = omega arith
  rank_rises l b kind.Balise = omega arith
  rank_rises l b kind.Signal = omega arith
  rank_rises l b kind.Joint = omega arith
  rank_rises l b kind.Siding = omega arith

-- ---- a file's do from the header to End

module _ (f : List ℕ) where
  -- where the entry with an index stands, of those from `entries` on
  abbrev entry_at : ℕ → ℕ → ℕ
  entry_at entries i = entries + header_entry_size * i

  tracks_rise : (entries count high : ℕ) → entry_at entries count ≤ high → Rises (entry_at entries 0) high (entries_fields f entries count)
  unfolding entries_fields
  tracks_rise entries count high h = entries_rise (entry_at entries) (entry_fields f entries) (λ i. omega arith) count high h

  own_rise : (entries from count high : ℕ) → entry_at entries count ≤ high → Rises (entry_at entries 0) high (entries_agree f entries from count)
  unfolding entries_agree
  own_rise entries from count high h = entries_rise (entry_at entries) (entry_agrees f entries from) (λ i. omega arith) count high h

module _ (f : List ℕ) (l : Layout) (r : Regions f l) where
  records_rise : (g : Kind → ℕ → List Fact) → ((at : ℕ) (k : Kind) → Rises at (at + size_of f k at) (g k at)) → Rises l.starts l.end (flat_map (λ at. g (kind_at l at) at) (starts f l))
  records_rise g own =
      rises_starts (size_at f l) l.end l.end (λ at. g (kind_at l at) at) (λ at. own at (kind_at l at)) l.starts (reach_le (reach_stop f l r)) (start_fits f l r)

  -- THEOREM: check 5
  pub fields_located : Located (field_facts f l) (Lowest (FieldAtFault f l))
  unfolding field_facts
  fields_located =
      let first = entries_fields f start_entries_at l.n in
      let second = entries_fields f (end_entries_at l.n) l.k in
      let records = flat_map (record_fields f l) (starts f l) in
      let start = entry_at f start_entries_at 0 in
      let end = entry_at f (end_entries_at l.n) 0 in
      located 0 l.end (field_facts f l) (FieldAtFault f l)
      (rises_append 0 start l.end (header_fields f) (first ++ (second ++ records)) (omega arith)
      (rises_append start end l.end first (second ++ records) (tracks_rise f start_entries_at l.n end (omega arith))
      (rises_append end l.starts l.end second records (tracks_rise f (end_entries_at l.n) l.k l.starts (omega arith)) (records_rise (kind_fields f) (fields_rise f)))))
      (fields_fail f l)

  -- THEOREM: check 7
  pub agreement_located : Located (agreement_facts f l) (Lowest (AgreementAtFault f l))
  unfolding agreement_facts
  agreement_located =
      let first = entries_agree f start_entries_at l.starts l.n in
      let second = entries_agree f (end_entries_at l.n) l.ends l.k in
      let records = flat_map (record_agrees f l) (starts f l) in
      let start = entry_at f start_entries_at 0 in
      let end = entry_at f (end_entries_at l.n) 0 in
      located start l.end (agreement_facts f l) (AgreementAtFault f l)
      (rises_append start end l.end first (second ++ records) (own_rise f start_entries_at l.starts l.n end (omega arith))
      (rises_append end l.starts l.end second records (own_rise f (end_entries_at l.n) l.ends l.k l.starts (omega arith)) (records_rise (λ k at. kind_agrees f l (record_before f l at) k at) (λ at. rank_rises f at l (record_before f l at)))))
      (agreement_fail f l (some_boundary r))
