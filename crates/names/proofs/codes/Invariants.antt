-- `names::codes` meets its contract. The loop's invariant: what was found, and the test of the pairs from the k-th on, make the test of them all.
use mathlib.Core.Path.{◌≡◌}
use mathlib.Core.Bool.{◌&&◌}
use Rattle.verdict.specs.Facts.{every, test}
use Rattle.names.specs.Names.{numbers, code_at, codes}
use Rattle.names.proofs.codes.Given as goal

abbrev pub invariant-loop-k : goal.invariant-loop-k
invariant-loop-k l = (l.ok && test (every (numbers l.k l.n) (λ i. code_at l.f l.place i))) ≡ test (codes l.f l.place l.n)
