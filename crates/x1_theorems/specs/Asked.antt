-- What each question on an X.1 file asks of its own, after the file's own fault (01: 'A question ..'), of the bytes alone: an index that
-- names nothing is 13; a coordinate's absent track is 11 and a position beyond the end 12; all with place 0. Indexes count from 0.
use Rattle.std.specs.Prelude.{ℕ, ◌≤◌, ◌<◌, ◌≡◌, List, [], ◌∷◌}
use Rattle.verdict.specs.Order.{Check, check}
use Rattle.x1_layout.specs.Layout.{count_of, last_of}
use Rattle.x1_obeys.specs.Obeys.{size_of, entry_place, point_place}
use Rattle.x1_lookup.specs.Lookup.{TrackNumbered}
use Rattle.x1_questions.specs.Stretch.{end_position_of}

-- ---- what is asked for is there

-- the file has a track i, and point j stands no further than its last point
-- 01: Ask.2
pub record PointNamed (f : List ℕ) (i j : ℕ) : Type 0 where
  pub track : i < count_of f
  pub point : point_place f (size_of f) (entry_place i) j ≤ last_of f (entry_place i)

-- a track of the file has the number, and position x is at most its end
-- 01: Ask.3
pub record PositionOn (f : List ℕ) (number x : ℕ) : Type 0 where
  pub found : TrackNumbered f number
  pub before_end : x ≤ end_position_of f (entry_place found.track)

-- ---- each question's own checks, in their order

-- the header: none
abbrev pub header_checks : List Check
header_checks = []

-- track i
-- 01: No.13, Ask.2
abbrev pub track_checks : List ℕ → ℕ → List Check
track_checks f i = check 13 (i < count_of f) (λ p. p ≡ 0) ∷ []

-- point j of track i
-- 01: No.13, Ask.2
abbrev pub point_checks : List ℕ → ℕ → ℕ → List Check
point_checks f i j = check 13 (PointNamed f i j) (λ p. p ≡ 0) ∷ []

-- the coordinate at position x of the track with a number
-- 01: Ask.3
abbrev pub coordinate_checks : List ℕ → ℕ → ℕ → List Check
coordinate_checks f number x = check 11 (TrackNumbered f number) (λ p. p ≡ 0) ∷ check 12 (PositionOn f number x) (λ p. p ≡ 0) ∷ []
