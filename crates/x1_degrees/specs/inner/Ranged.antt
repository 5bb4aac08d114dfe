-- What the inner functions require of their callers. Each call proves it, so no promise rests on it.
use Rattle.x1_questions.specs.Results.{CoordinateAnswer}
use Rattle.std.specs.Prelude.{Ok, Err}
use Rattle.x1_questions.specs.Coordinate.{CoordinateRange}

-- a coordinate that is answered is in its range
abbrev pub Ranged : CoordinateAnswer → Type 0
Ranged (Ok c) = CoordinateRange c
Ranged (Err t) = Unit {0}
