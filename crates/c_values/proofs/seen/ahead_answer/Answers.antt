-- `c_values::seen::ahead_answer` meets its contract.
use mathlib.Core.Path.{refl}
use native.Mathlib.Omega.{arith}
use borrow.Author.Rules.{rules}
use Rattle.c_values.proofs.Ahead.{six_bytes, shown_sum}
use Rattle.c_values.proofs.seen.ahead_answer.Goals as goal

pub overflow_add-result-2 : goal.overflow_add-result-2
overflow_add-result-2 c = omega (arith, six_bytes _ _ _ _ c.head_of-low.ensures)

pub returns : goal.returns
returns c = shown_sum c.args.a _ _ _ _ _ _ c.head_of-low.ensures refl refl refl c.stop_of-stop.ensures c.count_of-objects.ensures
