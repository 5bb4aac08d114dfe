-- `route_lister::goes_on` meets its contract.
use borrow.Author.Tests.{eq-eqb, ne_eqb, lt-ltb, le-ltb}
use Rattle.route_lister.specs.inner.Choices.{goes_on}
use Rattle.route_lister.proofs.flat.goes_on.Goals as goal

pub returns-then-link-eq0 : goal.returns-then-link-eq0
unfolding goes_on
returns-then-link-eq0 c = simp (eq-eqb _ _ c.if-link-eq0.true)

pub returns-then-limit-n : goal.returns-then-limit-n
unfolding goes_on
returns-then-limit-n c = simp (ne_eqb _ _ c.if-link-eq0.false, le-ltb _ _ c.if-limit-n.true)

pub returns : goal.returns
unfolding goes_on
returns c = simp (ne_eqb _ _ c.if-link-eq0.false, lt-ltb _ _ c.if-limit-n.false, c.stands.ensures)
