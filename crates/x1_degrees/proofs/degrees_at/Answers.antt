-- `x1_degrees::degrees_at` meets its contract. A coordinate that is answered is in its range.
use mathlib.Core.Path.{ap, ◌∙◌}
use Rattle.x1_degrees.specs.Questions.{with_degrees, degrees_asked}
use Rattle.x1_degrees.proofs.Questions.{coordinate_ranged}
use Rattle.x1_degrees.proofs.degrees_at.Goals as goal

pub with_degrees-requires : goal.with_degrees-requires
with_degrees-requires c = coordinate_ranged _ _ _ c.coordinate.ensures

pub returns : goal.returns
unfolding degrees_asked
returns c = c.with_degrees.ensures ∙ ap with_degrees c.coordinate.ensures
