-- `x2_links::targets::all_targets` meets its contract.
use Prim.Native.Nat.{◌-◌}
use Rattle.x2_layout.specs.inner.Walking.{Walking}
use Rattle.x2_links.specs.Links.{record_targets}
use Rattle.x2_links.proofs.targets.all_targets.Given as goal

abbrev pub invariant-loop-at : goal.invariant-loop-at
invariant-loop-at l = Walking l.f l.l (record_targets l.f l.l) l.at

abbrev pub decreases-loop-at : goal.decreases-loop-at
decreases-loop-at l = l.l.end - l.at
