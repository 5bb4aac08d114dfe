-- The refusals of a pair, of the bytes alone (01, 'The pair: X.1's fault, then X.2's, then 10, then by record and position in stored
-- order 11 before 12; a siding has only 11'): which file, number and place are answered. f is X.1 and g is X.2. Said twice: by checks in
-- turn, as the paper's table has them (`PairAnswered`), and of 10, 11 and 12 in plain words (`StationsDiffer`, `TrackMissing`,
-- `PositionBeyond`). Both are proved to be what is answered, so that either can be read alone.
use Rattle.std.specs.Prelude.{ℕ, ◌+◌, ◌<◌, ◌≡◌}
use mathlib.Core.List.{List, [], ◌∷◌, ◌++◌, flat_map, Memᴰ}
use Rattle.octets.specs.Octets.{num_at}
use Rattle.verdict.specs.Order.{Check, check, Answered, Reported}
use Rattle.x1_obeys.specs.Obeys.{entry_place}
use Rattle.x1_obeys.specs.Obeys as geography
use Rattle.x1_theorems.specs.Faults as first
use Rattle.x2_layout.specs.declared.Layout.{Layout}
use Rattle.x2_layout.specs.Layout.{layout_of}
use Rattle.x2_layout.specs.Records.{kind_at, starts}
use Rattle.x2_verdict.specs.Obeys as application
use Rattle.x2_theorems.specs.Checks as second
use Rattle.pair.specs.Pair.{Spot, lies, stands, spots}
use Rattle.pair_theorems.specs.Obeys.{TrackIn, SpotObeys, PairObeys}

-- ---- what a check asks

-- a track of X.1 has this number
abbrev pub HasTrack : List ℕ → ℕ → Type 0
HasTrack f number = (i : ℕ) × TrackIn f number i

-- the tracks and positions of X.2, by record and position in stored order
-- 01: Pair.1
abbrev pub spots_of : List ℕ → Layout → List Spot
spots_of g l = flat_map (λ at. spots (kind_at l at) at) (starts g l)

-- ---- the pair's own checks in turn

-- of each of these the track, 11 at its byte, and then the position, 12 at its field; a siding has only 11
-- 01: No.11, No.12, Pair.1
abbrev pub spot_checks : List ℕ → List ℕ → List Spot → List Check
spot_checks f g [] = []
spot_checks f g (lies t q ∷ ss) =
    check 11 (HasTrack f (num_at 1 g t)) (λ p. p ≡ t) ∷ check 12 (SpotObeys f g (lies t q)) (λ p. p ≡ q) ∷ spot_checks f g ss
spot_checks f g (stands t ∷ ss) = check 11 (HasTrack f (num_at 1 g t)) (λ p. p ≡ t) ∷ spot_checks f g ss

-- 01: No.10, Pair.1
abbrev pub own_checks : List ℕ → List ℕ → Layout → List Check
own_checks f g l = check 10 (num_at 2 g 5 ≡ num_at 2 f 5) (λ p. p ≡ 5) ∷ spot_checks f g (spots_of g l)

-- The file d, the number n and the place p are answered: X.1's fault by its own table, then X.2's by its own, then the pair's, of file 2.
-- 01: Pair.1, Pair.5
pub data PairAnswered (f g : List ℕ) (d n p : ℕ) : Type 0 where
  accepted : d ≡ 0 → n ≡ 0 → p ≡ 0 → PairObeys f g → PairAnswered f g d n p
  fault_of_first : d ≡ 1 → (n ≡ 0 → ⊥) → Reported (first.checks f) n p → PairAnswered f g d n p
  fault_of_second : d ≡ 2 → geography.Obeys f → (n ≡ 0 → ⊥) → Answered (second.checks g) n p → PairAnswered f g d n p
  fault_of_pair : d ≡ 2 → geography.Obeys f → application.Obeys g → (n ≡ 0 → ⊥) → Reported (own_checks f g (layout_of g)) n p
      → PairAnswered f g d n p

-- ---- the same of 10, 11 and 12 in plain words

-- s is the first of these, in their order, that does not obey
-- 01: Pair.1
pub record FirstAtFault (f g : List ℕ) (ss : List Spot) (s : Spot) : Type 0 where
  pub before : List Spot
  pub after : List Spot
  pub there : ss ≡ before ++ (s ∷ after)
  pub obeyed : (r : Spot) → Memᴰ r before → SpotObeys f g r
  pub fails : SpotObeys f g s → ⊥

-- the place of its track byte
abbrev pub track_place : Spot → ℕ
track_place (lies t q) = t
track_place (stands t) = t

-- 10: both files obey, and the stations differ; the place is 5
-- 01: No.10
pub record StationsDiffer (f g : List ℕ) (p : ℕ) : Type 0 where
  pub first : geography.Obeys f
  pub second : application.Obeys g
  pub differ : num_at 2 g 5 ≡ num_at 2 f 5 → ⊥
  pub place : p ≡ 5

-- 11: both files obey, the stations are the same, and the first in stored order that does not obey has a track that is not in X.1; the
-- place is the track byte
-- 01: No.11
pub record TrackMissing (f g : List ℕ) (p : ℕ) : Type 0 where
  pub first : geography.Obeys f
  pub second : application.Obeys g
  pub station : num_at 2 g 5 ≡ num_at 2 f 5
  pub spot : Spot
  pub in_order : FirstAtFault f g (spots_of g (layout_of g)) spot
  pub missing : HasTrack f (num_at 1 g (track_place spot)) → ⊥
  pub place : p ≡ track_place spot

-- 12: the same, but its track, named at the place `track`, is there, and its position is beyond that track's end; the place is the position
-- field
-- 01: No.12
pub record PositionBeyond (f g : List ℕ) (p : ℕ) : Type 0 where
  pub first : geography.Obeys f
  pub second : application.Obeys g
  pub station : num_at 2 g 5 ≡ num_at 2 f 5
  pub track : ℕ
  pub in_order : FirstAtFault f g (spots_of g (layout_of g)) (lies track p)
  pub index : ℕ
  pub there : TrackIn f (num_at 1 g track) index
  pub beyond : num_at 4 f (entry_place index + 14) < num_at 4 g p
