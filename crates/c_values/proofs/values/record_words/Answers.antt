-- `c_values::values::record_words` meets its contract.
use borrow.Author.Rules.{rules}
use Rattle.c_values.proofs.values.record_words.Goals as goal

pub returns-in-StartBoundary : goal.returns-in-StartBoundary
returns-in-StartBoundary c = simp (c.boundary_words.ensures, c.in-StartBoundary.is)

pub returns-in-EndBoundary : goal.returns-in-EndBoundary
returns-in-EndBoundary c = simp (c.boundary_words-in-EndBoundary.ensures, c.in-EndBoundary.is)

pub returns-in-Turnout : goal.returns-in-Turnout
returns-in-Turnout c = simp (c.turnout_words.ensures, c.in-Turnout.is)

pub returns-in-Balise : goal.returns-in-Balise
returns-in-Balise c = simp (c.balise_words.ensures, c.in-Balise.is)

pub returns-in-Signal : goal.returns-in-Signal
returns-in-Signal c = simp (c.signal_words.ensures, c.in-Signal.is)

pub returns-in-Joint : goal.returns-in-Joint
returns-in-Joint c = simp (c.joint_words.ensures, c.in-Joint.is)

pub returns-in-Siding : goal.returns-in-Siding
returns-in-Siding c = simp (c.siding_words.ensures, c.in-Siding.is)
