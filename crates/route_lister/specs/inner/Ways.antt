-- How a walk goes on from an object that it has reached, as one value: the links are those of `exits_of` (crate route_graph).
use Rattle.std.specs.Prelude.{ℕ, cond, eqb}
use Rattle.route_graph.specs.declared.TurnoutLinks.{TurnoutLinks}
use Rattle.route_graph.specs.declared.Object.{Object}
use Rattle.route_graph.specs.declared.Object.TheVariants.{Boundary, Plain, Turnout, Nothing}
use Rattle.route_graph.specs.Ways.{onward_of}
use Rattle.route_lister.specs.declared.ways.Way.{Way}
use Rattle.route_lister.specs.declared.ways.Way.TheVariants.{Arrives, Forks, On}

unfoldable pub turnout_way : TurnoutLinks → ℕ → Way
turnout_way t from = cond (eqb t.front from) (Forks t) (On t.front)

unfoldable pub way_of : Object → ℕ → Way
way_of (Boundary link) from = Arrives
way_of (Plain p) from = On (onward_of p from)
way_of (Turnout t) from = turnout_way t from
way_of Nothing from = On 0
