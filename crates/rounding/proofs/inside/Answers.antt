-- `rounding::inside` meets its contract: its test is the definition's, with the distances that `octets::distance` gives.
use mathlib.Core.Path.{ap, ◌∙◌}
use lib.IntN.{nat_abs}
use Rattle.octets.proofs.Signs.{kept}
use Rattle.rounding.proofs.Answers.{tested}
use Rattle.rounding.proofs.inside.Goals as goal

pub returns : goal.returns
returns c = let a = c.args in
    tested a.y0 a.y1 a.t a.den
    (c.distance.ensures ∙ ap nat_abs (kept a.y0 c.ranges.y0.sfits))
    (c.distance-2.ensures ∙ ap nat_abs (kept a.y1 c.ranges.y1.sfits))
