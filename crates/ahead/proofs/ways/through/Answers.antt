-- `ahead::ways::through` meets its contract.
use Rattle.ahead.proofs.Legs.{by_front, by_normal, by_reverse}
use Rattle.ahead.proofs.ways.through.Goals as goal

pub returns-then-t-from : goal.returns-then-t-from
returns-then-t-from c = by_front _ _ _ c.if-t-from.true _ c.at_front.ensures

pub returns-then-t-from-2 : goal.returns-then-t-from-2
returns-then-t-from-2 c = by_normal _ _ _ c.if-t-from.false c.if-t-from-2.true _ c.at_leg.ensures

pub returns : goal.returns
returns c = by_reverse _ _ _ c.if-t-from.false c.if-t-from-2.false _ c.at_leg-2.ensures
