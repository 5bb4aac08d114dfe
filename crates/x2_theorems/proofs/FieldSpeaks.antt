-- Each fact of the fields, and of the agreement, carries its check's reason, its claim is what its mark says, and its mark tells the start
-- of its record.
use Prim.Native.Nat.{ℕ, ◌+◌, ◌-◌}
use mathlib.Core.Path.{◌≡◌, refl}
use mathlib.Core.List.{List, [], ◌∷◌, ◌++◌, flat_map}
use native.Mathlib.Omega.{arith}
use Rattle.verdict.specs.declared.Mark.{Mark}
use Rattle.verdict.specs.declared.Reason.{Reason}
use Rattle.verdict.specs.declared.Reason.TheVariants.{Field, Agreement}
use Rattle.verdict.specs.Facts.{Claim, Fact, fact, Marked}
use Rattle.refusals.proofs.Sections.{Each, Speaks, each_append, each_flat}
use Rattle.tables.specs.Rows.{table_facts}
use Rattle.tables.proofs.Rows.{table_marked}
use Rattle.x2_records.specs.declared.Kind.{Kind}
use Rattle.x2_records.specs.Rows.{table_of, balise_group}
use Rattle.x2_layout.specs.declared.Layout.{Layout}
use Rattle.x2_layout.specs.Places.{start_entries_at, end_entries_at}
use Rattle.x2_layout.specs.Facts.{indexes}
use Rattle.x2_layout.specs.Records.{kind_at, starts, record_before}
use Rattle.x2_fields.specs.Fields.{header_fields, entry_fields, entries_fields, record_fields, field_facts}
use Rattle.x2_kinds.specs.KindFields.{message_of, kind_fields}
use Rattle.x2_fields.specs.Agreement.{entry_agrees, entries_agree, rank_in_count, in_sequence, kind_agrees, record_agrees, agreement_facts}
use Rattle.x2_theorems.specs.FieldSays.{own_claim, field_says, agreement_says}
use Rattle.x2_theorems.specs.Says.{NamesBefore}
use Rattle.refusals.proofs.TableFails.{each_table}
use Rattle.x2_theorems.proofs.FieldRows.{message_each, rank_each}

-- ---- fields

-- facts of one reason, each of which is what its mark says
spoken : (says : Mark → Claim) (r : Reason) (fs : List Fact) → Each (λ c m. m.reason ≡ r) fs → Marked says fs → Each (Speaks says r) fs
spoken says r [] e k = tt
spoken says r (fact c m ∷ fs) e k = ((e.0, k.0), spoken says r fs e.1 k.1)

module _ (f : List ℕ) (l : Layout) where
  abbrev Spoken : Claim → Mark → Type 0
  Spoken = Speaks (field_says f l) Field

  kind_speaks : (k : Kind) (at : ℕ) → Each Spoken (kind_fields f k at)
  unfolding kind_fields
  kind_speaks k at =
      each_append Spoken (table_facts f at (table_of k)) (message_of f k at)
      (spoken (field_says f l) Field (table_facts f at (table_of k)) (each_table f at (λ c m. m.reason ≡ Field) (λ i w c r. refl) (table_of k))
      (table_marked f (λ m. own_claim f l m.place m.width m.rule) at (λ i w least. refl) (table_of k)))
      (message_each f Spoken at ((refl, refl), tt) k)

  entries_speak : (entries count : ℕ) → Each Spoken (entries_fields f entries count)
  unfolding entries_fields
  entries_speak entries count = each_flat Spoken (entry_fields f entries) (indexes count) (λ i. ((refl, refl), tt))

  -- THEOREM: each fact of a record tells that record's start, and each of the header 0
  pub record_starts : (k : Kind) (at : ℕ) → Each (λ c m. m.start ≡ at) (kind_fields f k at)
  unfolding kind_fields
  record_starts k at =
      each_append (λ c m. m.start ≡ at) (table_facts f at (table_of k)) (message_of f k at) (each_table f at (λ c m. m.start ≡ at) (λ i w c r. refl) (table_of k))
      (message_each f (λ c m. m.start ≡ at) at (refl, tt) k)

  pub header_starts : Each (λ c m. m.start ≡ 0) (header_fields f)
  header_starts = (refl, (refl, (refl, tt)))

  pub entries_start : (entries count : ℕ) → Each (λ c m. m.start ≡ 0) (entries_fields f entries count)
  unfolding entries_fields
  entries_start entries count = each_flat (λ c m. m.start ≡ 0) (entry_fields f entries) (indexes count) (λ i. (refl, tt))

  -- THEOREM: of check 5
  pub fields_speak : Each (Speaks (field_says f l) Field) (field_facts f l)
  unfolding field_facts
  fields_speak =
      let records = flat_map (record_fields f l) (starts f l) in
      let first = entries_fields f start_entries_at l.n in
      let second = entries_fields f (end_entries_at l.n) l.k in
      each_append Spoken (header_fields f) (first ++ (second ++ records)) ((refl, refl), ((refl, refl), ((refl, refl), tt)))
      (each_append Spoken first (second ++ records) (entries_speak start_entries_at l.n)
      (each_append Spoken second records (entries_speak (end_entries_at l.n) l.k)
      (each_flat Spoken (record_fields f l) (starts f l) (λ at. kind_speaks (kind_at l at) at))))

-- ---- agreement

module _ (f : List ℕ) (l : Layout) where
  abbrev Agreed : Claim → Mark → Type 0
  Agreed = Speaks (agreement_says f l) Agreement

  tracks_speak : (entries from count : ℕ) → Each Agreed (entries_agree f entries from count)
  unfolding entries_agree
  tracks_speak entries from count = each_flat Agreed (entry_agrees f entries from) (indexes count) (λ i. ((refl, refl), tt))

  -- THEOREM: the same of the agreement
  pub rank_starts : (b : ℕ) (k : Kind) (at : ℕ) → Each (λ c m. m.start ≡ at) (kind_agrees f l b k at)
  rank_starts b k at = rank_each f (λ c m. m.start ≡ at) at l b (refl, (refl, tt)) k

  -- THEOREM: what a fact of a record names is of the record before
  pub rank_names : (k : Kind) (at : ℕ) → Each (λ c m. NamesBefore f l m) (kind_agrees f l (record_before f l at) k at)
  rank_names k at = rank_each f (λ c m. NamesBefore f l m) at l (record_before f l at) (refl, (omega arith, tt)) k

  -- the group byte that a mark names is that of the record before
  off_again : (x : ℕ) → x + balise_group.offset - balise_group.offset ≡ x
  off_again x = omega arith

  rank_speaks : (b at : ℕ) → Each Agreed (rank_in_count f at ∷ in_sequence f l b at ∷ [])
  rank_speaks b at = ((refl, refl), ((refl, rw (off_again b, off_again at)), tt))

  pub tracks-start : (entries from count : ℕ) → Each (λ c m. m.start ≡ 0) (entries_agree f entries from count)
  unfolding entries_agree
  tracks-start entries from count = each_flat (λ c m. m.start ≡ 0) (entry_agrees f entries from) (indexes count) (λ i. (refl, tt))

  -- THEOREM: of check 7
  pub agreement_speak : Each (Speaks (agreement_says f l) Agreement) (agreement_facts f l)
  unfolding agreement_facts
  agreement_speak =
      let records = flat_map (record_agrees f l) (starts f l) in
      let first = entries_agree f start_entries_at l.starts l.n in
      let second = entries_agree f (end_entries_at l.n) l.ends l.k in
      each_append Agreed first (second ++ records) (tracks_speak start_entries_at l.starts l.n)
      (each_append Agreed second records (tracks_speak (end_entries_at l.n) l.ends l.k)
      (each_flat Agreed (record_agrees f l) (starts f l) (λ at. rank_each f Agreed at l (record_before f l at) (rank_speaks (record_before f l at) at) (kind_at l at))))
