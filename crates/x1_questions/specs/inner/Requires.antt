-- What the inner functions require of their callers. Each call proves it, so no promise rests on these.
use Rattle.std.specs.Prelude.{ℕ, suc, ◌+◌, ◌≤◌, ◌≡◌, List}
use Rattle.envelope.specs.Seal.{most_length}
use Rattle.x1_layout.specs.Layout.{last_of}
use Rattle.x1_obeys.specs.Obeys.{point_place, EntryObeys, TrackAgrees}
use Rattle.rounding.specs.Way.{Limits}
use Rattle.x1_questions.specs.Stretch.{position_of, latitude_of, longitude_of, past_of, length_of}

-- the track obeys, and its points stand in a file of X.1
pub record TrackObeys (f : List ℕ) (size e : ℕ) : Type 0 where
  pub entry : EntryObeys f e
  pub agrees : TrackAgrees f size e
  pub two_points : (k : ℕ) × (last_of f e ≡ point_place f size e (suc k))
  pub in_file : last_of f e ≤ most_length

-- x lies on the stretch that starts at p, and the numbers are inside rounding's limits
pub record OnStretch (f : List ℕ) (size e x p : ℕ) : Type 0 where
  pub in_file : p ≤ most_length
  pub past : position_of f p ≤ x
  pub latitude : Limits (latitude_of f e p) (latitude_of f e (p + size)) (past_of f x p) (length_of f size p)
  pub longitude : Limits (longitude_of f e p) (longitude_of f e (p + size)) (past_of f x p) (length_of f size p)
