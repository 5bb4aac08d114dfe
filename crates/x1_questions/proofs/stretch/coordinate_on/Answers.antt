-- `x1_questions::stretch::coordinate_on` meets its contract. On the stretch the positions rise, so both differences are there.
use Prim.Native.Nat.{ℕ, ◌+◌, ◌-◌, ◌^◌, ◌<◌}
use mathlib.Core.Path.{◌≡◌}
use mathlib.Core.List.{List}
use lib.IntN.{ℤ}
use lib.Signed.{mag}
use Rattle.octets.proofs.Signs.{read, kept}
use Rattle.rounding.specs.Nearest.{coordinate_of}
use Rattle.x1_questions.specs.declared.answers.Coordinate.{Coordinate}
use Rattle.x1_questions.specs.Stretch.{position_of, latitude_of, longitude_of, coordinate_on}
use Rattle.x1_questions.proofs.stretch.coordinate_on.Goals as goal

-- both coordinates as the machine reads them back, from the positions that were read
made : (f : List ℕ) (size e x p : ℕ) {from to : ℕ} {la lo : ℤ} → from ≡ position_of f p → to ≡ position_of f (p + size)
    → mag la < 2 ^ 63 → la ≡ coordinate_of (latitude_of f e p) (latitude_of f e (p + size)) (x - from) (to - from)
    → mag lo < 2 ^ 63 → lo ≡ coordinate_of (longitude_of f e p) (longitude_of f e (p + size)) (x - from) (to - from)
    → ◌≡◌ {A = Coordinate} (record { latitude = read la; longitude = read lo }) (coordinate_on f size e x p)
unfolding coordinate_on
made f size e x p {la} {lo} h g a l b r = rw (kept la a, kept lo b, l, r, h, g)

pub returns : goal.returns
returns c = made _ _ _ _ _ c.number_of-from.ensures.is c.number_of-to.ensures.is c.along.type_inv c.along.ensures c.along-2.type_inv c.along-2.ensures
