-- `plan_lines::store` meets its contract. The loop's invariant: what the words that are left store makes the same of `out` as what all words store
-- makes of it as it was, and there is room for them.
use Rattle.plan_lines.specs.Lines.{words_in}
use Rattle.plan_lines.proofs.Stores.{Stored}
use Rattle.plan_lines.proofs.store.Given as goal

abbrev pub invariant-loop-k : goal.invariant-loop-k
invariant-loop-k l = Stored (words_in l.text) (words_in l.k-iterator.iter.0.now) l.fn.out l.k-iterator.count l.out
