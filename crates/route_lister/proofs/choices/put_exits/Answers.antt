-- `route_lister::put_exits` meets its contract: a boundary and what is no object are left by no link.
use Rattle.route_graph.specs.Ways.{exits_of}
use Rattle.route_lister.proofs.Opening.{none_put}
use Rattle.route_lister.proofs.choices.put_exits.Goals as goal

pub returns-in-Boundary : goal.returns-in-Boundary
unfolding exits_of
returns-in-Boundary c = rw c.in-Boundary.is (none_put _ _ _ _ c.requires.2)

pub returns-in-Plain : goal.returns-in-Plain
unfolding exits_of
returns-in-Plain c = rw c.in-Plain.is (rw c.onward.ensures at c.put_choice.ensures)

pub returns-in-Turnout : goal.returns-in-Turnout
unfolding exits_of
returns-in-Turnout c = rw c.in-Turnout.is c.put_legs.ensures

pub returns-in-Nothing : goal.returns-in-Nothing
unfolding exits_of
returns-in-Nothing c = rw c.in-Nothing.is (none_put _ _ _ _ c.requires.2)
