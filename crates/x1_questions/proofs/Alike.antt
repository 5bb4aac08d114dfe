-- THEOREM: the coordinate of a point is refused where the point is, and by the same number at the same place.
use Prim.Native.Nat.{ℕ}
use mathlib.Core.Path.{◌≡◌, refl}
use mathlib.Core.List.{List}
use Rattle.verdict.specs.Verdicts.{Verdict}
use Rattle.std.specs.Prelude.{Ok, Err}
use Rattle.verdict.specs.Answers.{answer_number, answer_place}
use Rattle.x1_verdict.specs.Facts.{verdict_of}
use Rattle.x1_questions.specs.Results.{PointAnswer}
use Rattle.x1_questions.specs.Results.{CoordinateAnswer}
use Rattle.std.specs.Prelude.{Option, Some, None}
use Rattle.x1_questions.specs.declared.Standing.{Standing}
use Rattle.x1_questions.specs.Answers.{point_answer, coordinate_answer}
use Rattle.x1_questions.specs.Questions.{point_of, point_coordinate_of}
use Rattle.x1_questions.specs.inner.Sought.{sought_point}
use Rattle.x1_questions.proofs.Questions.{file_fault, point_from, point_sought, coordinate_from, coordinate_sought}

-- two answers have one number and one place
abbrev pub Alike : CoordinateAnswer → PointAnswer → Type 0
Alike a b = (answer_number (coordinate_answer a) ≡ answer_number (point_answer b)) × (answer_place (coordinate_answer a) ≡ answer_place (point_answer b))

sought_alike : (f : List ℕ) (s : Option Standing) → Alike (coordinate_from f s) (point_from f s)
sought_alike f (Some w) = (refl, refl)
sought_alike f None = (refl, refl)

pub point_alike : (f : List ℕ) (i j : ℕ) → Alike (point_coordinate_of f i j) (point_of f i j)
point_alike f i j = by_verdict (verdict_of f) refl
  where
    by_verdict : (v : Verdict) → verdict_of f ≡ v → Alike (point_coordinate_of f i j) (point_of f i j)
    by_verdict (Err t) g = let w = file_fault f t g in rw (w.3 i j, w.2 i j) (refl, refl)
    by_verdict (Ok tt) g = rw (coordinate_sought f refl g i j, point_sought f refl g i j) (sought_alike f (sought_point f i j))
