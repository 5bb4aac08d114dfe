-- `x2_verdict::starts::starts_balise` meets its contract. The invariant: what is found from here on is what is found from the first balise on.
use Prim.Native.Nat.{◌-◌}
use mathlib.Core.Path.{◌≡◌}
use Rattle.verdict.specs.Facts.{test}
use Rattle.x2_verdict.specs.inner.Starts.{balise_starts}
use Rattle.x2_verdict.proofs.starts.starts_balise.Given as goal

abbrev pub invariant-loop-at : goal.invariant-loop-at
invariant-loop-at l = test (balise_starts l.f l.at l.x) ≡ test (balise_starts l.f l.from l.x)

abbrev pub decreases-loop-at : goal.decreases-loop-at
decreases-loop-at l = l.x - l.at
