-- What an X.1 file is that obeys the standard as 01 reads it: header, layout, fields and agreement, as plain facts in 01's words and
-- order, with no search and no test. Tracks are counted by i from 0, the points of a track by j from 0; `size` is the size of a point, which
-- the file's structure version gives (02, ticket 11).
use Rattle.std.specs.Prelude.{ℕ, suc, ◌+◌, ◌*◌, ◌≤◌, ◌<◌, ◌≡◌, List, length, take, ℤ, nat_abs, ◌+ℤ◌}
use Rattle.octets.specs.Octets.{num_at, signed_at}
use Rattle.checksum.specs.Checksum.{checksum_of}
pub use Rattle.rules.specs.Rules.{Between}
use Rattle.envelope.specs.Seal.{most_length, type_at}
use Rattle.x1_records.specs.Places as place
pub use Rattle.x1_layout.specs.Layout.{structure_of, size_of}
use Rattle.x1_layout.specs.Layout.{end_of, count_of, points_at, first_of, last_of}

-- z lies within plus or minus a limit
abbrev pub Within : ℕ → ℤ → Type 0
Within limit z = nat_abs z ≤ limit

-- where the entry of track i stands
abbrev pub entry_place : ℕ → ℕ
entry_place i = place.entries_at + place.entry_size * i

-- where point j stands, of the track whose entry is at e
abbrev pub point_place : List ℕ → ℕ → ℕ → ℕ → ℕ
point_place f size e j = first_of f e + size * j

-- ---- layout

-- 02: Ticket11.3
pub record LayoutObeys (f : List ℕ) (size : ℕ) : Type 0 where
  -- there is a track, and the entries end by End
  -- 01: Fault1.layout.1
  pub some_track : Between 1 255 (count_of f)
  -- 01: Fault1.layout.1
  pub entries_fit : points_at f ≤ end_of f
  -- the first track's points start at 8 + 30 n
  -- 01: X1.layout.1
  pub first_due : first_of f (entry_place 0) ≡ points_at f
  -- each next track's start where the last one's end
  -- 01: X1.layout.2
  pub next_due : (i : ℕ) → suc i < count_of f → first_of f (entry_place (suc i)) ≡ last_of f (entry_place i) + size
  -- a track has at least two points: the last stands a positive number of points after the first
  -- 01: X1.layout.3
  pub two_points : (i : ℕ) → i < count_of f → (k : ℕ) × (last_of f (entry_place i) ≡ point_place f size (entry_place i) (suc k))
  -- a track's points end by End
  -- 01: Fault1.layout.3
  pub points_fit : (i : ℕ) → i < count_of f → last_of f (entry_place i) + size ≤ end_of f
  -- the final point ends at End
  -- 01: X1.layout.4
  pub final : (i : ℕ) → suc i ≡ count_of f → last_of f (entry_place i) + size ≡ end_of f

-- ---- fields: the numbers are those of 01 and the places those of the standard's tables, written here a second time

pub record EntryObeys (f : List ℕ) (e : ℕ) : Type 0 where
  -- 01: X1.fields.2
  pub number : Between 1 255 (num_at 1 f (e + 0))
  -- 01: X1.fields.3
  pub property : Between 1 5 (num_at 1 f (e + 1))
  -- 01: X1.fields.4
  pub start_position : num_at 4 f (e + 2) ≡ 0
  -- 01: X1.fields.5
  pub start_latitude : Within 324000000 (signed_at 4 f (e + 6))
  -- 01: X1.fields.5
  pub start_longitude : Within 648000000 (signed_at 4 f (e + 10))
  -- 01: X1.fields.6
  pub end_position : Between 0 2147483647 (num_at 4 f (e + 14))
  -- 01: X1.fields.5
  pub end_latitude : Within 324000000 (signed_at 4 f (e + 18))
  -- 01: X1.fields.5
  pub end_longitude : Within 648000000 (signed_at 4 f (e + 22))

pub record PointObeys (f : List ℕ) (p : ℕ) : Type 0 where
  -- 01: X1.fields.6
  pub position : Between 0 2147483647 (num_at 4 f (p + 0))
  -- 01: X1.fields.7
  pub heading : Within 31416 (signed_at 2 f (p + 10))
  -- 01: X1.fields.8
  pub near : Between 0 1 (num_at 1 f (p + 12))

pub record FieldsObey (f : List ℕ) (size : ℕ) : Type 0 where
  -- 01: X1.fields.1
  pub data_version : Between 1 65535 (num_at 2 f 3)
  -- 01: X1.fields.1
  pub station : Between 1 65535 (num_at 2 f 5)
  pub each_entry : (i : ℕ) → i < count_of f → EntryObeys f (entry_place i)
  pub each_point : (j : ℕ) → points_at f + size * j < end_of f → PointObeys f (points_at f + size * j)

-- ---- agreement

-- 01: X1.agree.7
pub record TrackAgrees (f : List ℕ) (size e : ℕ) : Type 0 where
  -- the first point has position and both increments 0, and its near flag equals the second's
  -- 01: X1.agree.2
  pub first_position : num_at 4 f (point_place f size e 0 + 0) ≡ 0
  -- 01: X1.agree.2
  pub first_latitude : num_at 3 f (point_place f size e 0 + 4) ≡ 0
  -- 01: X1.agree.2
  pub first_longitude : num_at 3 f (point_place f size e 0 + 7) ≡ 0
  -- 01: X1.agree.3
  pub first_near : num_at 1 f (point_place f size e 0 + 12) ≡ num_at 1 f (point_place f size e 1 + 12)
  -- positions strictly rise
  -- 01: X1.agree.4
  pub rising : (j : ℕ) → point_place f size e (suc j) ≤ last_of f e
      → num_at 4 f (point_place f size e j + 0) < num_at 4 f (point_place f size e (suc j) + 0)
  -- start plus increment stays in the coordinate's range
  -- 01: X1.agree.5
  pub latitudes : (j : ℕ) → point_place f size e j ≤ last_of f e
      → Within 324000000 (signed_at 4 f (e + 6) +ℤ signed_at 3 f (point_place f size e j + 4))
  -- 01: X1.agree.5
  pub longitudes : (j : ℕ) → point_place f size e j ≤ last_of f e
      → Within 648000000 (signed_at 4 f (e + 10) +ℤ signed_at 3 f (point_place f size e j + 7))
  -- the last point equals the track's end position, latitude and longitude
  -- 01: X1.agree.6
  pub last_position : num_at 4 f (last_of f e + 0) ≡ num_at 4 f (e + 14)
  -- 01: X1.agree.6
  pub last_latitude : signed_at 4 f (e + 6) +ℤ signed_at 3 f (last_of f e + 4) ≡ signed_at 4 f (e + 18)
  -- 01: X1.agree.6
  pub last_longitude : signed_at 4 f (e + 10) +ℤ signed_at 3 f (last_of f e + 7) ≡ signed_at 4 f (e + 22)

pub record AgreementObeys (f : List ℕ) (size : ℕ) : Type 0 where
  -- track numbers strictly rise
  -- 01: X1.agree.1
  pub numbers : (i : ℕ) → suc i < count_of f → num_at 1 f (entry_place i + 0) < num_at 1 f (entry_place (suc i) + 0)
  pub each_track : (i : ℕ) → i < count_of f → TrackAgrees f size (entry_place i)

-- ---- the file

-- The file obeys, as a reader takes it that knows the structure versions up to the newest.
-- 02: Ticket11.6
pub record ObeysBy (newest : ℕ) (f : List ℕ) : Type 0 where
  -- 01: No.1
  pub least : 68 ≤ length f
  -- 01: File.1, No.1
  pub most : length f ≤ most_length
  -- 01: Sum.7
  pub checksum : num_at 4 f (end_of f) ≡ checksum_of (take (end_of f) f)
  -- 01: X1.header.1
  pub file_type : num_at 1 f type_at ≡ 1
  -- 01: X1.fields.1
  -- 02: Ticket11.8
  pub structure_version : Between 1 newest (structure_of f)
  -- a file with heights has at least 72 bytes
  -- 02: Ticket11.9
  pub least_with_heights : 2 ≤ structure_of f → 72 ≤ length f
  -- 02: Ticket11.10
  pub layout : LayoutObeys f (size_of f)
  pub fields : FieldsObey f (size_of f)
  pub agreement : AgreementObeys f (size_of f)

-- As users take it: the versions 1 and 2 are known.
abbrev pub Obeys : List ℕ → Type 0
Obeys = ObeysBy 2
