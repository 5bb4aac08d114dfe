-- `x1_questions::point_coordinate` meets its contract: by where the point stands. The sums are small, so the machine reads them back as they are.
use Prim.Native.Nat.{ℕ}
use mathlib.Core.Path.{◌≡◌, sym, ap, ◌∙◌}
use mathlib.Core.List.{List}
use lib.IntN.{ℤ}
use Rattle.octets.proofs.Signs.{read}
use Rattle.verdict.proofs.Questions.{own_fault}
use Rattle.x1_questions.specs.declared.answers.Coordinate.{Coordinate}
use Rattle.x1_questions.specs.Results.{PointAnswer}
use Rattle.std.specs.Prelude.{Err}
use Rattle.x1_questions.specs.Stretch.{latitude_of, longitude_of, point_coordinate}
use Rattle.x1_questions.specs.Questions.{track_of, point_of, of_both, point_coordinate_of}
use Rattle.x1_questions.proofs.Sums.{summed}
use Rattle.x1_questions.proofs.Questions.{coordinate_none, coordinate_there}
use Rattle.x1_questions.proofs.point_coordinate.Goals as goal

-- both sums as the machine reads them back
made : (f : List ℕ) (e p : ℕ) (la lo : ℤ) → read la ≡ latitude_of f e p → read lo ≡ longitude_of f e p
    → ◌≡◌ {A = Coordinate} (record { latitude = read la; longitude = read lo }) (point_coordinate f e p)
made f e p la lo l r = rw (l, r)

pub returns-in_default : goal.returns-in_default
unfolding point_coordinate_of point_of
returns-in_default c = let a = c.args in
    ap (λ (x : PointAnswer). of_both x (track_of a.f.now a.track)) (own_fault Err _ _ _ c.verdict_of-v.ensures c.unwrap_err.ensures _)

pub find_point-sought-requires : goal.find_point-sought-requires
find_point-sought-requires c = sym c.verdict_of-v.ensures ∙ c.in-Ok.is

pub returns-in_default-sought : goal.returns-in_default-sought
returns-in_default-sought c = coordinate_none _ c.verdict_of-v.ensures c.in-Ok.is _ _ c.find_point-sought.ensures c.in_default-sought.is c.refusal.ensures

pub returns : goal.returns
returns c = coordinate_there _ c.verdict_of-v.ensures c.in-Ok.is _ _ c.find_point-sought.ensures c.in-Some.is (made _ _ _ c.sum_of.result c.sum_of-2.result (summed _ _ _ _ c.sum_of.result c.sum_of.ensures) (summed _ _ _ _ c.sum_of-2.result c.sum_of-2.ensures))
