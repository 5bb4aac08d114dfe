-- `names::zeros` meets its contract. The loop's invariant: only zeros were passed.
use Prim.Native.Nat.{ℕ, ◌≤◌, ◌<◌}
use mathlib.Core.Path.{◌≡◌}
use Rattle.names.specs.Names.{byte_after}
use Rattle.names.proofs.zeros.Given as goal

abbrev pub invariant-loop-k : goal.invariant-loop-k
invariant-loop-k l = (l.from ≤ l.k) × ((j : ℕ) → j < l.k → l.from ≤ j → byte_after l.f l.place j ≡ 0)
