-- `ahead::ways::way_of` meets its contract.
use Rattle.ahead.proofs.Legs.{way_boundary, way_plain, way_turnout, way_nothing}
use Rattle.ahead.proofs.ways.way_of.Goals as goal

pub returns-in-Boundary : goal.returns-in-Boundary
returns-in-Boundary c = way_boundary _ _ _ _ c.in-Boundary.is

pub returns-in-Plain : goal.returns-in-Plain
returns-in-Plain c = way_plain _ _ _ _ _ c.in-Plain.is c.onward.ensures

pub returns-in-Turnout : goal.returns-in-Turnout
returns-in-Turnout c = way_turnout _ _ _ _ _ _ c.in-Turnout.is c.lie_of.ensures c.through.ensures

pub returns-in-Nothing : goal.returns-in-Nothing
returns-in-Nothing c = way_nothing _ _ _ c.in-Nothing.is
