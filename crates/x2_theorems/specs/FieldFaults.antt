-- What is at fault in the fields and in the agreement of an X.2 file, and at which place (01, 'Verdicts and their order': a field is
-- reported at its first byte; agreement 'at the header's track byte and at the group byte'). It is said of the bytes alone, beside Obeys
-- and with the numbers that 01 prints. What a refusal reports is the lowest of these places: 'the first fault in byte order counts'.
use Rattle.std.specs.Prelude.{ℕ, ◌+◌, ◌*◌, ◌<◌, ◌≡◌}
use mathlib.Core.List.{List, Memᴰ}
use Rattle.octets.specs.Octets.{num_at}
use Rattle.rules.specs.Rules.{Between}
use Rattle.names.specs.Names.{StationName}
use Rattle.tables.specs.Rows.{RowAtFault}
use Rattle.x2_records.specs.declared.Kind.TheVariants as kind
use Rattle.x2_records.specs.Rows.{table_of}
use Rattle.x2_layout.specs.declared.Layout.{Layout}
use Rattle.x2_layout.specs.Records.{kind_at, starts}
use Rattle.x2_obeys.specs.Fields.{MessageEnds, rank_at, group_count_at, Member, InSequence}

-- ---- fields

-- p is the first byte of a field that is outside its values
-- 01: No.5
pub data FieldAtFault (f : List ℕ) (l : Layout) (p : ℕ) : Type 0 where
  -- in the header: the data version, the station, the station name
  data_version : p ≡ 3 → (Between 1 65535 (num_at 2 f 3) → ⊥) → FieldAtFault f l p
  station : p ≡ 5 → (Between 1 65535 (num_at 2 f 5) → ⊥) → FieldAtFault f l p
  station_name : p ≡ 7 → (StationName f 7 → ⊥) → FieldAtFault f l p
  -- the track of a start boundary or of an end boundary
  start_track : (i : ℕ) → i < l.n → p ≡ 24 + 3 * i → (Between 1 255 (num_at 1 f (24 + 3 * i)) → ⊥) → FieldAtFault f l p
  end_track : (j : ℕ) → j < l.k → p ≡ 25 + 3 * l.n + 3 * j → (Between 1 255 (num_at 1 f (25 + 3 * l.n + 3 * j)) → ⊥) → FieldAtFault f l p
  -- in a record: a row of its table, and a balise's message, which starts after its 16 bytes
  in_record : (at : ℕ) → Memᴰ at (starts f l) → RowAtFault f at (table_of (kind_at l at)) p → FieldAtFault f l p
  message : (at : ℕ) → Memᴰ at (starts f l) → kind_at l at ≡ kind.Balise → p ≡ at + 16 → (MessageEnds f at → ⊥) → FieldAtFault f l p

-- ---- agreement

-- p is the header's track byte of a boundary whose record has another track, or the group byte of a balise whose place is above its count, or
-- that is a member out of sequence
-- 01: No.7, Fault2.agree.1
pub data AgreementAtFault (f : List ℕ) (l : Layout) (p : ℕ) : Type 0 where
  start_own : (i : ℕ) → i < l.n → p ≡ 24 + 3 * i → (num_at 1 f (24 + 3 * i) ≡ num_at 1 f (l.starts + 12 * i + 11) → ⊥)
      → AgreementAtFault f l p
  end_own :
      (j : ℕ) → j < l.k → p ≡ 25 + 3 * l.n + 3 * j → (num_at 1 f (25 + 3 * l.n + 3 * j) ≡ num_at 1 f (l.ends + 12 * j + 11) → ⊥)
      → AgreementAtFault f l p
  group :
      (at : ℕ) → Memᴰ at (starts f l) → kind_at l at ≡ kind.Balise → p ≡ at + 15 → group_count_at f at < rank_at f at
      → AgreementAtFault f l p
  -- 02: Ticket2.6
  member : (at : ℕ) → Memᴰ at (starts f l) → Member f l at → p ≡ at + 15 → (InSequence f l at → ⊥) → AgreementAtFault f l p
