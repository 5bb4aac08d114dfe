-- `names::spelt` meets its contract. The loop's invariant: n of the first k bytes are a name's, and `ok`, `before` and `spaced` say what
-- the k bytes are (`Spelt`).
use Prim.Native.Nat.{◌≤◌}
use Rattle.names.proofs.Spelling.{Spelt}
use Rattle.names.proofs.spelt.Given as goal

abbrev pub invariant-loop-k : goal.invariant-loop-k
invariant-loop-k l = (l.k ≤ 8) × (l.n ≤ l.k) × Spelt l.f l.place l.k l.n l.ok l.before l.spaced
