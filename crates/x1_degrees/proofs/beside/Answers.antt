-- `x1_degrees::beside` meets its contract. Both casts keep their numbers.
use Prim.Native.Nat.{◌≤◌}
use mathlib.Core.Path.{◌≡◌}
use native.Mathlib.Omega.{arith}
use lib.IntN.{nat_abs}
use mir.Syntax.{w32}
use mir.Val.{to_z, of_z}
use Rattle.degrees.specs.declared.Degrees.{Degrees}
use Rattle.degrees.specs.Degrees.{in_degrees}
use Rattle.x1_questions.specs.declared.answers.Coordinate.{Coordinate}
use Rattle.x1_questions.specs.Coordinate.{CoordinateRange}
use Rattle.x1_degrees.specs.declared.Surveyed.{Surveyed}
use Rattle.x1_degrees.specs.Questions.{surveyed_at}
use Rattle.x1_degrees.proofs.Narrow.{wide, narrow, narrow_is}
use Rattle.x1_degrees.proofs.beside.Goals as goal

module _ (c : Coordinate) (r : CoordinateRange c) where
  near : nat_abs c.latitude ≤ 648000000
  near = let h = r.latitude in omega arith

  made : {d : Degrees} → d ≡ in_degrees (to_z w32 (of_z w32 (wide c.latitude))) (to_z w32 (of_z w32 (wide c.longitude)))
      → ◌≡◌ {A = Surveyed} (record { coordinate = c; degrees = d }) (surveyed_at c)
  made e = rw (e, narrow_is c.latitude near, narrow_is c.longitude r.longitude)

pub overflow_cast-coordinate : goal.overflow_cast-coordinate
overflow_cast-coordinate c = narrow c.args.coordinate.latitude (near c.args.coordinate c.requires)

pub overflow_cast-coordinate-2 : goal.overflow_cast-coordinate-2
overflow_cast-coordinate-2 c = narrow c.args.coordinate.longitude c.requires.longitude

pub returns : goal.returns
returns c = made c.args.coordinate c.requires c.in_degrees-degrees.ensures
