-- `route_lister::limit_of` meets its contract.
use borrow.Author.Tests.{eq-eqb, ne_eqb}
use Rattle.route_lister.specs.Answered.{limit_of}
use Rattle.route_lister.proofs.asked.limit_of.Goals as goal

pub returns-then-limit-eq0 : goal.returns-then-limit-eq0
unfolding limit_of
returns-then-limit-eq0 c = simp (eq-eqb _ _ c.if-limit-eq0.true)

pub returns-else-limit-eq0 : goal.returns-else-limit-eq0
unfolding limit_of
returns-else-limit-eq0 c = simp (ne_eqb _ _ c.if-limit-eq0.false)
