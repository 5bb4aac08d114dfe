-- `names::code_count` meets its contract. The loop's invariant: no code that was passed begins with a zero.
use Prim.Native.Nat.{ℕ, ◌*◌, ◌≤◌, ◌<◌}
use mathlib.Core.Path.{◌≡◌}
use Rattle.names.specs.Names.{byte_after}
use Rattle.names.proofs.code_count.Given as goal

abbrev pub invariant-loop-n : goal.invariant-loop-n
invariant-loop-n l = (l.n ≤ 8) × ((k : ℕ) → k < l.n → byte_after l.f l.place (2 * k) ≡ 0 → ⊥)
