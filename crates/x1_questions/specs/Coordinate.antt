-- What the coordinate at a position is (01, 'Coordinate at a position'), as plain facts: it lies between two neighbouring points of the
-- track, and is the whole number nearest the exact linear one between them, a half going up. The track's entry is at e, its points are
-- `size` bytes long and counted by j from 0.
use Rattle.std.specs.Prelude.{ℕ, suc, ◌-◌, ◌≤◌, List, ℤ}
use Rattle.x1_layout.specs.Layout.{last_of}
use Rattle.x1_obeys.specs.Obeys.{Within, point_place}
use Rattle.rounding.specs.Nearest.{Nearest, exact_of}
use Rattle.x1_questions.specs.declared.answers.Coordinate.{Coordinate}
use Rattle.x1_questions.specs.Stretch.{position_of, latitude_of, longitude_of}

-- position x lies between point j and the next one, which is still a point of the track
-- 01: Coord.1
pub record Neighbours (f : List ℕ) (size e x j : ℕ) : Type 0 where
  pub in_track : point_place f size e (suc j) ≤ last_of f e
  pub past : position_of f (point_place f size e j) ≤ x
  pub ahead : x ≤ position_of f (point_place f size e (suc j))

-- r is nearest to the exact one at x between p and q, where what y gives moves linearly
-- 01: Coord.2
abbrev pub NearestAt : List ℕ → (ℕ → ℤ) → ℕ → ℕ → ℕ → ℤ → Type 0
NearestAt f y x p q r =
    Nearest (exact_of (y p) (y q) (x - position_of f p) (position_of f q - position_of f p)) (position_of f q - position_of f p) r

-- r is the coordinate at position x
-- 01: Coord.1
-- 02: Ticket11.3
pub record CoordinateAt (f : List ℕ) (size e x : ℕ) (r : Coordinate) : Type 0 where
  pub point : ℕ
  pub between : Neighbours f size e x point
  pub latitude : NearestAt f (latitude_of f e) x (point_place f size e point) (point_place f size e (suc point)) r.latitude
  pub longitude : NearestAt f (longitude_of f e) x (point_place f size e point) (point_place f size e (suc point)) r.longitude

-- c is in the ranges that 01 has for a point's coordinates
pub record CoordinateRange (c : Coordinate) : Type 0 where
  pub latitude : Within 324000000 c.latitude
  pub longitude : Within 648000000 c.longitude
