-- `x1_degrees::point_degrees` meets its contract. A coordinate that is answered is in its range.
use mathlib.Core.Path.{ap, ◌∙◌}
use Rattle.x1_degrees.specs.Questions.{with_degrees, point_degrees_of}
use Rattle.x1_degrees.proofs.Questions.{point_ranged}
use Rattle.x1_degrees.proofs.point_degrees.Goals as goal

pub with_degrees-requires : goal.with_degrees-requires
with_degrees-requires c = point_ranged _ _ _ c.point_coordinate.ensures

pub returns : goal.returns
unfolding point_degrees_of
returns c = c.with_degrees.ensures ∙ ap with_degrees c.point_coordinate.ensures
