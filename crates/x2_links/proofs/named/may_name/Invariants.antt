-- `x2_links::named::may_name` meets its contract. The loop's invariant: what is found from the record at `at` on is what is found at all.
use Prim.Native.Nat.{◌-◌}
use mathlib.Core.Path.{◌≡◌}
use Rattle.verdict.specs.Facts.{test}
use Rattle.x2_links.specs.Links.{is_target}
use Rattle.x2_links.proofs.Seeking.{found_from}
use Rattle.x2_links.proofs.named.may_name.Given as goal

abbrev pub invariant-loop-at : goal.invariant-loop-at
invariant-loop-at l = found_from l.f l.l l.x l.at ≡ test (is_target l.f l.l l.x)

abbrev pub decreases-loop-at : goal.decreases-loop-at
decreases-loop-at l = l.x - l.at
