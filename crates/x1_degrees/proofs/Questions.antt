-- The coordinate of a question's answer is in its range, so that it can be set in degrees.
use Prim.Native.Nat.{ℕ}
use mathlib.Core.Path.{◌≡◌, refl, sym, subst}
use mathlib.Core.List.{List}
use Rattle.x1_questions.specs.declared.answers.Coordinate.{Coordinate}
use Rattle.x1_questions.specs.Results.{CoordinateAnswer}
use Rattle.std.specs.Prelude.{Ok, Err}
use Rattle.x1_questions.specs.Coordinate.{CoordinateRange}
use Rattle.x1_questions.specs.Questions.{point_coordinate_of, coordinate_asked}
use Rattle.x1_questions.proofs.Ranges.{coordinate_range, point_coordinate_range}
use Rattle.x1_degrees.specs.inner.Ranged.{Ranged}

-- whatever a question answers is in its range
ranged : (a : CoordinateAnswer) → ((c : Coordinate) → a ≡ Ok c → CoordinateRange c) → Ranged a
ranged (Ok c) h = h c refl
ranged (Err t) h = tt

pub coordinate_ranged : (f : List ℕ) (number x : ℕ) {a : CoordinateAnswer} → a ≡ coordinate_asked f number x → Ranged a
coordinate_ranged f number x e = subst Ranged (sym e) (ranged (coordinate_asked f number x) (coordinate_range f number x))

pub point_ranged : (f : List ℕ) (i j : ℕ) {a : CoordinateAnswer} → a ≡ point_coordinate_of f i j → Ranged a
point_ranged f i j e = subst Ranged (sym e) (ranged (point_coordinate_of f i j) (point_coordinate_range f i j))
