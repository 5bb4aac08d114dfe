-- What the fields and the agreement of an X.2 file are, as plain facts in 01's words and order, with no search and no test. This is written
-- apart from the tables of `records`, with the numbers that 01 and the standard print: `at + 1` is the byte at place 1 of the record that
-- starts at `at`, and num_at n f p the number of the n bytes at p. proofs/Tables has the theorems that the two say the same. f is the
-- file, l its layout; the start boundaries are counted by i and the end boundaries by j, each from 0.
use Rattle.std.specs.Prelude.{ℕ, ◌+◌, ◌-◌, ◌*◌, ◌/◌, ◌%◌, ◌≤◌, ◌<◌, ◌≡◌, ◌⊎◌}
use mathlib.Core.List.{List, Memᴰ}
use Rattle.octets.specs.Octets.{num_at}
use Rattle.rules.specs.Rules.{Between}
use Rattle.names.specs.Names.{ObjectName, StationName}
use Rattle.x2_records.specs.declared.Kind.{Kind}
use Rattle.x2_records.specs.declared.Kind.TheVariants as kind
use Rattle.x2_layout.specs.declared.Layout.{Layout}
use Rattle.x2_layout.specs.Records.{kind_at, starts, DirectlyBefore}

-- x is one of two numbers
abbrev pub OneOfTwo : ℕ → ℕ → ℕ → Type 0
OneOfTwo a b x = (x ≡ a) ⊎ (x ≡ b)

-- x is one of four numbers
abbrev pub OneOfFour : ℕ → ℕ → ℕ → ℕ → ℕ → Type 0
OneOfFour a b c d x = (x ≡ a) ⊎ ((x ≡ b) ⊎ ((x ≡ c) ⊎ (x ≡ d)))

-- x is one of five numbers
abbrev pub OneOfFive : ℕ → ℕ → ℕ → ℕ → ℕ → ℕ → Type 0
OneOfFive a b c d e x = (x ≡ a) ⊎ ((x ≡ b) ⊎ ((x ≡ c) ⊎ ((x ≡ d) ⊎ (x ≡ e))))

-- ---- fields

-- Tables 6 and 7. Neighbour station and neighbour track may be any.
-- 01: X2.fields.3
pub record BoundaryObeys (f : List ℕ) (at : ℕ) : Type 0 where
  -- 01: X2.fields.2
  pub neighbour_type : OneOfFive 0x00 0x01 0xFF 0xFE 0x55 (num_at 1 f (at + 5))
  -- 01: X2.fields.7
  pub position : num_at 4 f (at + 7) ≤ 2147483647
  -- 01: X2.fields.5
  pub track : Between 1 255 (num_at 1 f (at + 11))

pub record StartBoundaryObeys (f : List ℕ) (at : ℕ) : Type 0 where
  -- 01: X2.fields.1
  pub entry : OneOfTwo 0x00 0x01 (num_at 1 f (at + 0))
  pub boundary : BoundaryObeys f at

pub record EndBoundaryObeys (f : List ℕ) (at : ℕ) : Type 0 where
  -- 01: X2.fields.1
  pub entry : OneOfTwo 0xFF 0xFE (num_at 1 f (at + 0))
  pub boundary : BoundaryObeys f at

-- Table 8.
pub record TurnoutObeys (f : List ℕ) (at : ℕ) : Type 0 where
  -- 01: X2.fields.4
  pub entry : num_at 1 f (at + 0) ≡ 0x06
  -- 01: X2.fields.5
  pub number : Between 1 255 (num_at 1 f (at + 1))
  -- 01: X2.fields.6
  pub direction : OneOfTwo 0 1 (num_at 1 f (at + 2))
  -- 01: X2.fields.7
  pub tip_position : num_at 4 f (at + 3) ≤ 2147483647
  -- 01: X2.fields.7
  pub normal_position : num_at 4 f (at + 7) ≤ 2147483647
  -- 01: X2.fields.7
  pub reverse_position : num_at 4 f (at + 11) ≤ 2147483647
  -- 01: X2.fields.5
  pub front_track : Between 1 255 (num_at 1 f (at + 21))
  -- 01: X2.fields.5
  pub normal_track : Between 1 255 (num_at 1 f (at + 22))
  -- 01: X2.fields.5
  pub reverse_track : Between 1 255 (num_at 1 f (at + 23))

-- a balise with a message is larger than 16 bytes, and its last byte is 0xFF
-- 01: X2.fields.11
abbrev pub MessageEnds : List ℕ → ℕ → Type 0
MessageEnds f at = 16 < num_at 1 f (at + 8) → num_at 1 f (at + num_at 1 f (at + 8) - 1) ≡ 0xFF

-- Table 9.
pub record BaliseObeys (f : List ℕ) (at : ℕ) : Type 0 where
  -- 01: X2.fields.4
  pub entry : num_at 1 f (at + 0) ≡ 0x33
  -- any but 0xFFFFFF, the greatest number of three bytes
  -- 01: X2.fields.8
  pub number : num_at 3 f (at + 5) < 0xFFFFFF
  -- 01: X2.fields.9
  pub attribute : OneOfFour 0x40 0x41 0x80 0x81 (num_at 1 f (at + 9))
  -- 01: X2.fields.7
  pub position : num_at 4 f (at + 10) ≤ 2147483647
  -- 01: X2.fields.5
  pub track : Between 1 255 (num_at 1 f (at + 14))
  -- the middle two bits
  -- 01: X2.fields.10
  pub group : num_at 1 f (at + 15) / 8 % 4 ≡ 0
  -- 01: X2.fields.11
  pub message : MessageEnds f at

-- Table 10.
pub record SignalObeys (f : List ℕ) (at : ℕ) : Type 0 where
  -- 01: X2.fields.4
  pub entry : num_at 1 f (at + 0) ≡ 0xC3
  -- 01: X2.fields.15
  -- 02: Ticket10.6
  pub name : ObjectName f (at + 5) 1
  -- 01: X2.fields.7
  pub position : num_at 4 f (at + 13) ≤ 2147483647
  -- 01: X2.fields.5
  pub track : Between 1 255 (num_at 1 f (at + 17))
  -- the top two bits, the middle two and the low four
  -- 01: X2.fields.12
  pub top : num_at 1 f (at + 18) / 64 % 4 ≤ 2
  -- 01: X2.fields.13
  pub middle : num_at 1 f (at + 18) / 16 % 4 ≡ 0
  -- 01: X2.fields.14
  pub low : Between 1 5 (num_at 1 f (at + 18) % 16)

-- Table 11. The name may be empty.
pub record JointObeys (f : List ℕ) (at : ℕ) : Type 0 where
  -- 01: X2.fields.4
  pub entry : num_at 1 f (at + 0) ≡ 0xC6
  -- 02: Ticket10.1, Ticket10.5
  pub name : ObjectName f (at + 5) 0
  -- 01: X2.fields.7
  pub position : num_at 4 f (at + 13) ≤ 2147483647
  -- 01: X2.fields.5
  pub track : Between 1 255 (num_at 1 f (at + 17))

-- Table 12. The exit signal names may be empty, and the exit balises may be any.
-- 01: X2.fields.18
pub record SidingObeys (f : List ℕ) (at : ℕ) : Type 0 where
  -- 01: X2.fields.4
  pub entry : num_at 1 f (at + 0) ≡ 0xCC
  -- 01: X2.fields.15
  -- 02: Ticket10.6
  pub name : ObjectName f (at + 1) 1
  -- 01: X2.fields.5
  pub track : Between 1 255 (num_at 1 f (at + 9))
  -- 01: X2.fields.16
  -- 02: Ticket10.5
  pub up_signal : ObjectName f (at + 13) 0
  -- 01: X2.fields.16
  -- 02: Ticket10.5
  pub down_signal : ObjectName f (at + 24) 0

-- a record of a kind
abbrev pub RecordObeys : List ℕ → Kind → ℕ → Type 0
RecordObeys f kind.StartBoundary at = StartBoundaryObeys f at
RecordObeys f kind.EndBoundary at = EndBoundaryObeys f at
RecordObeys f kind.Turnout at = TurnoutObeys f at
RecordObeys f kind.Balise at = BaliseObeys f at
RecordObeys f kind.Signal at = SignalObeys f at
RecordObeys f kind.Joint at = JointObeys f at
RecordObeys f kind.Siding at = SidingObeys f at

-- Table 5, and every record. A header entry has three bytes, and its track is the first.
pub record FieldsObey (f : List ℕ) (l : Layout) : Type 0 where
  -- 01: X2.header.1
  pub data_version : Between 1 65535 (num_at 2 f 3)
  -- 01: X2.header.1
  pub station : Between 1 65535 (num_at 2 f 5)
  -- 01: X2.fields.19
  pub station_name : StationName f 7
  -- 01: X2.fields.5
  pub start_tracks : (i : ℕ) → i < l.n → Between 1 255 (num_at 1 f (24 + 3 * i))
  -- 01: X2.fields.5
  pub end_tracks : (j : ℕ) → j < l.k → Between 1 255 (num_at 1 f (25 + 3 * l.n + 3 * j))
  pub each_record : (at : ℕ) → Memᴰ at (starts f l) → RecordObeys f (kind_at l at) at

-- ---- agreement

-- a balise's rank, which 01 calls its place: the low three bits of its group byte and 1; and its group's count: the top three and 1
abbrev pub rank_at : List ℕ → ℕ → ℕ
rank_at f at = num_at 1 f (at + 15) % 8 + 1

abbrev pub group_count_at : List ℕ → ℕ → ℕ
group_count_at f at = num_at 1 f (at + 15) / 32 % 8 + 1

-- a balise of place above 1
-- 02: Ticket2.1
pub record Member (f : List ℕ) (l : Layout) (at : ℕ) : Type 0 where
  pub balise : kind_at l at ≡ kind.Balise
  pub later : 1 < rank_at f at

-- the record directly before the one at `at` is a balise of the same count and a lower place
-- 02: Ticket2.2
pub record InSequence (f : List ℕ) (l : Layout) (at : ℕ) : Type 0 where
  pub before : ℕ
  pub directly : DirectlyBefore f l before at
  pub balise : kind_at l before ≡ kind.Balise
  pub same_count : group_count_at f before ≡ group_count_at f at
  pub lower : rank_at f before < rank_at f at

pub record AgreementObeys (f : List ℕ) (l : Layout) : Type 0 where
  -- a header boundary's track equals its record's
  -- 01: X2.agree.1
  pub start_tracks : (i : ℕ) → i < l.n → num_at 1 f (24 + 3 * i) ≡ num_at 1 f (l.starts + 12 * i + 11)
  -- 01: X2.agree.1
  pub end_tracks : (j : ℕ) → j < l.k → num_at 1 f (25 + 3 * l.n + 3 * j) ≡ num_at 1 f (l.ends + 12 * j + 11)
  -- a balise's place is at most its count
  -- 01: X2.agree.2
  pub places : (at : ℕ) → Memᴰ at (starts f l) → kind_at l at ≡ kind.Balise → rank_at f at ≤ group_count_at f at
  -- a balise of place above 1 is in sequence
  -- 02: Ticket2.2
  pub members : (at : ℕ) → Memᴰ at (starts f l) → Member f l at → InSequence f l at
