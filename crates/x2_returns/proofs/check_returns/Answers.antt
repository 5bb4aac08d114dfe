-- `x2_returns::check_returns` meets its contract.
use Rattle.x2_layout.proofs.Bounds.{none_asked, is_bounded, all_judged}
use Rattle.x2_returns.proofs.check_returns.Goals as goal

pub returns-then-not-is_bounded : goal.returns-then-not-is_bounded
returns-then-not-is_bounded c = none_asked _ _ c.is_bounded.ensures c.if-not-is_bounded.true _

pub all_returns-requires : goal.all_returns-requires
all_returns-requires c = is_bounded _ _ c.is_bounded.ensures c.if-not-is_bounded.false

pub returns : goal.returns
returns c = all_judged _ _ c.is_bounded.ensures c.if-not-is_bounded.false _ _ c.all_returns.ensures
