-- `x2_returns::all_returns` meets its contract: a walk over the records that asks the facts of each of them, with the one before it.
use Prim.Native.Nat.{◌-◌}
use Rattle.x2_layout.specs.inner.Walking.{Following}
use Rattle.x2_links.specs.Links.{record_returns}
use Rattle.x2_returns.proofs.all_returns.Given as goal

abbrev pub invariant-loop-at : goal.invariant-loop-at
invariant-loop-at l = Following l.f l.l (record_returns l.f l.l) l.before l.at

abbrev pub decreases-loop-at : goal.decreases-loop-at
decreases-loop-at l = l.l.end - l.at
