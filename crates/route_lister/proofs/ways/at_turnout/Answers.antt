-- `route_lister::at_turnout` meets its contract.
use borrow.Author.Tests.{eq-eqb, ne_eqb}
use Rattle.route_lister.specs.inner.Ways.{turnout_way}
use Rattle.route_lister.proofs.ways.at_turnout.Goals as goal

pub returns-then-front-from : goal.returns-then-front-from
unfolding turnout_way
returns-then-front-from c = simp (eq-eqb _ _ c.if-front-from.true)

pub returns : goal.returns
unfolding turnout_way
returns c = simp (ne_eqb _ _ c.if-front-from.false)
