-- Where point j of track i stands, as the code looks for it.
use Rattle.std.specs.Prelude.{ℕ, cond, List, ltb}
use Rattle.x1_records.specs.Tracks.{points_in}
use Rattle.x1_layout.specs.Layout.{size_of, count_of, first_of, last_of}
use Rattle.x1_obeys.specs.Obeys.{entry_place, point_place}
use Rattle.std.specs.Prelude.{Option, Some, None}
use Rattle.x1_questions.specs.declared.Standing.{Standing}

-- of the track whose entry is at e
abbrev pub sought_in : List ℕ → ℕ → ℕ → ℕ → Option Standing
sought_in f size e j =
    cond (ltb j (points_in size (first_of f e) (last_of f e))) (Some (record { entry = e; place = point_place f size e j })) None

unfoldable pub sought_point : List ℕ → ℕ → ℕ → Option Standing
sought_point f i j = cond (ltb i (count_of f)) (sought_in f (size_of f) (entry_place i) j) None
