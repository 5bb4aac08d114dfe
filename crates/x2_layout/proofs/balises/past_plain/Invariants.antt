-- `x2_layout::balises::past_plain` meets its contract. The invariant: the balises before `at` obey.
use Prim.Native.Nat.{◌+◌, ◌-◌, ◌<◌}
use Rattle.x2_layout.specs.inner.Bounds.{slice_over}
use Rattle.x2_layout.specs.inner.Sizes.{Passed}
use Rattle.x2_layout.proofs.balises.past_plain.Given as goal

abbrev pub invariant-loop-at : goal.invariant-loop-at
invariant-loop-at l = Passed l.f l.until l.from l.at × (l.at < slice_over + 256)

abbrev pub decreases-loop-at : goal.decreases-loop-at
decreases-loop-at l = l.top - l.at
