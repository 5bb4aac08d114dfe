-- `c_values::words::lay` meets its contract. The loop's invariant: the values from i on, put at their place, give what all of them give from the start.
use Prim.Native.Nat.{◌-◌, ◌*◌, ◌≤◌}
use mathlib.Core.Path.{◌≡◌, refl, ◌∙◌}
use native.Mathlib.Omega.{arith}
use lib.ListN.{length, drop}
use lib.Seq.{sets}
use Rattle.c_values.specs.Words.{value_size, laid_bytes}
use Rattle.c_values.proofs.Laid.{lay_length, lay_more, lay_stop}
use borrow.Author.Rules.{rules}
use Rattle.c_values.proofs.words.lay.Given as goal

abbrev pub invariant-loop-i : goal.invariant-loop-i
invariant-loop-i l = (length l.out ≡ length l.initial.out) × (sets l.out (value_size * l.i) (laid_bytes (drop l.i l.words)) ≡ sets l.initial.out 0 (laid_bytes l.words))
