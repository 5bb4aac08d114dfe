-- `route_lister::way_of` meets its contract.
use borrow.Author.Rules.{rules}
use Rattle.route_lister.specs.inner.Ways.{way_of}
use Rattle.route_lister.proofs.ways.way_of.Goals as goal

pub returns-in-Boundary : goal.returns-in-Boundary
unfolding way_of
returns-in-Boundary c = search rules

pub returns-in-Plain : goal.returns-in-Plain
unfolding way_of
returns-in-Plain c = rw c.in-Plain.is (simp c.onward.ensures)

pub returns-in-Turnout : goal.returns-in-Turnout
unfolding way_of
returns-in-Turnout c = rw c.in-Turnout.is c.at_turnout.ensures

pub returns-in-Nothing : goal.returns-in-Nothing
unfolding way_of
returns-in-Nothing c = search rules
