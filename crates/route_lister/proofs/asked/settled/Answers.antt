-- `route_lister::settled` meets its contract.
use borrow.Author.Tests.{lt-ltb, le-ltb}
use Rattle.route_lister.specs.Answered.{judged}
use Rattle.route_lister.proofs.asked.settled.Goals as goal

pub returns-then-budget-counted : goal.returns-then-budget-counted
unfolding judged
returns-then-budget-counted c = simp (c.refusal.ensures, lt-ltb _ _ c.if-budget-counted.true)

pub returns-then-room-counted : goal.returns-then-room-counted
unfolding judged
returns-then-room-counted c = simp (c.refusal-then-room-counted.ensures, le-ltb _ _ c.if-budget-counted.false, lt-ltb _ _ c.if-room-counted.true)

pub returns : goal.returns
unfolding judged
returns c = simp (le-ltb _ _ c.if-budget-counted.false, le-ltb _ _ c.if-room-counted.false)
