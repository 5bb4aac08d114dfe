-- Where X.1's refusals are reported, of the bytes alone: what a place is that is at fault (01, 'Layout faults in X.1', 'Fields' and
-- 'Agreement in X.1'), and 01's table of checks, each by its number, by what a file is that passes it (Obeys), and by the place of a
-- refusal. Numbers and places are those that 01 prints. Tracks are counted by i from 0, the points of a track by j from 0; `size` is the
-- size of a point.
use Rattle.std.specs.Prelude.{ℕ, suc, zero, ◌+◌, ◌*◌, ◌≤◌, ◌<◌, ◌≡◌, List, [], ◌∷◌, length, take, ◌+ℤ◌}
use Rattle.octets.specs.Octets.{num_at, signed_at}
use Rattle.checksum.specs.Checksum.{checksum_of}
use Rattle.verdict.specs.Order.{Check, check, Lowest, Or, InFirst}
use Rattle.tables.specs.Rows.{RowAtFault}
use Rattle.x1_records.specs.Rows.{entry_table, point_table}
use Rattle.x1_layout.specs.Layout.{end_of, count_of, points_at, first_of, last_of}
use Rattle.x1_fields.specs.Fields.{header_table}
use Rattle.x1_obeys.specs.Obeys.{Between, Within, structure_of, size_of, entry_place, point_place, LayoutObeys, FieldsObey, AgreementObeys}

-- ---- layout: the count; then by track, the first offset and the last one; at last, where the points stop

-- n is 0 or 8 + 30n exceeds End (place 7)
-- 01: Fault1.layout.1
abbrev pub CountAtFault : List ℕ → ℕ → Type 0
CountAtFault f p = (p ≡ 7) × (Between 1 255 (count_of f) × (points_at f ≤ end_of f) → ⊥)

-- the first offset of track i is where due: after the entries, and then where the last track's points end
-- 01: Fault1.layout.2
abbrev pub FirstDue : List ℕ → ℕ → ℕ → Type 0
FirstDue f size zero = first_of f (entry_place 0) ≡ points_at f
FirstDue f size (suc i) = first_of f (entry_place (suc i)) ≡ last_of f (entry_place i) + size

-- the last offset of the entry at e is the first plus a positive multiple of the size, and with the size more not over End
-- 01: Fault1.layout.3
abbrev pub LastRight : List ℕ → ℕ → ℕ → Type 0
LastRight f size e = ((k : ℕ) × (last_of f e ≡ point_place f size e (suc k))) × (last_of f e + size ≤ end_of f)

-- p is the field of an offset that is not so
pub data OffsetAtFault (f : List ℕ) (size p : ℕ) : Type 0 where
  -- 01: Fault1.layout.2
  first_offset : (i : ℕ) → i < count_of f → p ≡ entry_place i + 26 → (FirstDue f size i → ⊥) → OffsetAtFault f size p
  -- 01: Fault1.layout.3
  last_offset : (i : ℕ) → i < count_of f → p ≡ entry_place i + 28 → (LastRight f size (entry_place i) → ⊥) → OffsetAtFault f size p

-- the points stop at p: where those of the last track end
-- 01: Fault1.layout.4
abbrev pub StopsAt : List ℕ → ℕ → ℕ → Type 0
StopsAt f size p = (i : ℕ) × (suc i ≡ count_of f) × (p ≡ last_of f (entry_place i) + size)

-- 01: No.6, Fault1.layout.4
abbrev pub LayoutPlace : List ℕ → ℕ → ℕ → Type 0
LayoutPlace f size = Or (CountAtFault f) (Or (OffsetAtFault f size) (StopsAt f size))

-- ---- fields: a refusal is at the lowest of these places

-- p is the first byte of a field that is outside its values: in the header (data version and station), in an entry or in a point
-- 01: No.5
pub data FieldAtFault (f : List ℕ) (size p : ℕ) : Type 0 where
  in_header : RowAtFault f 0 header_table p → FieldAtFault f size p
  in_entry : (i : ℕ) → i < count_of f → RowAtFault f (entry_place i) entry_table p → FieldAtFault f size p
  in_point : (j : ℕ) → points_at f + size * j < end_of f → RowAtFault f (points_at f + size * j) point_table p → FieldAtFault f size p

-- ---- agreement: by track, its number, then its points

-- the number of track i is above that of the track before it
-- 01: Fault1.agree.1
abbrev pub NumberRises : List ℕ → ℕ → Type 0
NumberRises f zero = Unit {0}
NumberRises f (suc i) = num_at 1 f (entry_place i + 0) < num_at 1 f (entry_place (suc i) + 0)

-- the point at p has position and both increments 0, and its near flag equals that of the point at q
pub record Opens (f : List ℕ) (p q : ℕ) : Type 0 where
  pub position : num_at 4 f (p + 0) ≡ 0
  pub latitude : num_at 3 f (p + 4) ≡ 0
  pub longitude : num_at 3 f (p + 7) ≡ 0
  -- 01: Fault1.agree.3
  pub near : num_at 1 f (p + 12) ≡ num_at 1 f (q + 12)

-- so the first point with the second; the position of a later point is above that of the point before it
-- 01: Fault1.agree.2
abbrev pub StartAgrees : List ℕ → ℕ → ℕ → ℕ → Type 0
StartAgrees f size e zero = Opens f (point_place f size e 0) (point_place f size e 1)
StartAgrees f size e (suc j) = num_at 4 f (point_place f size e j + 0) < num_at 4 f (point_place f size e (suc j) + 0)

-- the point at p equals the end position, latitude and longitude of the track whose entry is at e
pub record EndAgrees (f : List ℕ) (e p : ℕ) : Type 0 where
  pub position : num_at 4 f (p + 0) ≡ num_at 4 f (e + 14)
  pub latitude : signed_at 4 f (e + 6) +ℤ signed_at 3 f (p + 4) ≡ signed_at 4 f (e + 18)
  pub longitude : signed_at 4 f (e + 10) +ℤ signed_at 3 f (p + 7) ≡ signed_at 4 f (e + 22)

-- what is asked of point j of that track
-- 01: Fault1.agree.1
pub record PointAgrees (f : List ℕ) (size e j : ℕ) : Type 0 where
  -- 01: Fault1.agree.2
  pub start : StartAgrees f size e j
  -- start plus increment stays in the coordinate's range
  pub latitude : Within 324000000 (signed_at 4 f (e + 6) +ℤ signed_at 3 f (point_place f size e j + 4))
  pub longitude : Within 648000000 (signed_at 4 f (e + 10) +ℤ signed_at 3 f (point_place f size e j + 7))
  -- where it is the last one
  pub end : point_place f size e j ≡ last_of f e → EndAgrees f e (point_place f size e j)

-- p is the number's byte of track i, or the start of one of its points, that does not agree
-- 01: No.7, Fault1.agree.1
pub data TrackAtFault (f : List ℕ) (size i p : ℕ) : Type 0 where
  number : p ≡ entry_place i + 0 → (NumberRises f i → ⊥) → TrackAtFault f size i p
  point :
      (j : ℕ) → point_place f size (entry_place i) j ≤ last_of f (entry_place i) → p ≡ point_place f size (entry_place i) j
      → (PointAgrees f size (entry_place i) j → ⊥)
      → TrackAtFault f size i p

-- ---- 01's table, with ticket 11 of 02: the structure version is one that the reader knows, and a file with heights has its own least length

-- 01: No.1, No.2, No.3, No.4, No.6, No.5, No.7, Order.1
-- 02: Ticket11.8, Ticket11.9
abbrev pub checks_by : ℕ → List ℕ → List Check
checks_by newest f =
    check 1 (Between 68 65535 (length f)) (λ p. p ≡ 0)
    ∷ check 2 (num_at 4 f (end_of f) ≡ checksum_of (take (end_of f) f)) (λ p. p ≡ end_of f)
    ∷ check 3 (num_at 1 f 0 ≡ 1) (λ p. p ≡ 0)
    ∷ check 4 (Between 1 newest (num_at 2 f 1)) (λ p. p ≡ 1)
    ∷ check 1 (2 ≤ structure_of f → 72 ≤ length f) (λ p. p ≡ 0)
    ∷ check 6 (LayoutObeys f (size_of f)) (LayoutPlace f (size_of f))
    ∷ check 5 (FieldsObey f (size_of f)) (Lowest (FieldAtFault f (size_of f)))
    ∷ check 7 (AgreementObeys f (size_of f)) (InFirst (count_of f) (TrackAtFault f (size_of f)))
    ∷ []

-- the same of the reader that users have, which knows the versions 1 and 2
abbrev pub checks : List ℕ → List Check
checks = checks_by 2
