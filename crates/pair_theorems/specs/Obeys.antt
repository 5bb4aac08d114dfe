-- What a pair is that obeys: both files obey, the stations are the same, and each track and position of X.2 is in X.1.
use Rattle.std.specs.Prelude.{ℕ, ◌+◌, ◌≤◌, ◌<◌, ◌≡◌}
use mathlib.Core.List.{List, Memᴰ}
use Rattle.octets.specs.Octets.{num_at}
use Rattle.x1_layout.specs.Layout.{count_of}
use Rattle.x1_obeys.specs.Obeys.{entry_place}
use Rattle.x1_obeys.specs.Obeys as geography
use Rattle.x2_layout.specs.Layout.{layout_of}
use Rattle.x2_layout.specs.Records.{kind_at, starts}
use Rattle.x2_verdict.specs.Obeys as application
use Rattle.pair.specs.Pair.{Spot, lies, stands, spots}

-- track i of X.1 has this number
-- 01: No.11
pub record TrackIn (f : List ℕ) (number i : ℕ) : Type 0 where
  pub in_file : i < count_of f
  pub same : num_at 1 f (entry_place i + 0) ≡ number

-- the track is in X.1, and the position is within it
-- 01: No.12
abbrev pub SpotObeys : List ℕ → List ℕ → Spot → Type 0
SpotObeys f g (lies t p) = (i : ℕ) × TrackIn f (num_at 1 g t) i × (num_at 4 g p ≤ num_at 4 f (entry_place i + 14))
SpotObeys f g (stands t) = (i : ℕ) × TrackIn f (num_at 1 g t) i

-- 01: Pair.6
pub record PairObeys (f g : List ℕ) : Type 0 where
  pub first : geography.Obeys f
  pub second : application.Obeys g
  pub station : num_at 2 g 5 ≡ num_at 2 f 5
  pub on_track_lem : (at : ℕ) → Memᴰ at (starts g (layout_of g)) → (s : Spot) → Memᴰ s (spots (kind_at (layout_of g) at) at)
      → SpotObeys f g s
