-- `x1_lookup::presence::marked` meets its contract.
use Prim.Native.Nat.{ℕ, ◌/◌, ◌%◌}
use mathlib.Core.Path.{ap}
use native.Mathlib.Omega.{arith}
use borrow.Author.Tests.{eq-eqb, ne_eqb}
use lib.Bits.{bit_or}
use Rattle.x1_lookup.proofs.Ones.{shl_one}
use Rattle.x1_lookup.proofs.presence.marked.Goals as goal

pub returns-then-number-j : goal.returns-then-number-j
returns-then-number-j c = let a = c.args in
    rw (eq-eqb (a.number / 64) a.j c.if-number-j.true) (ap (λ (m : ℕ). bit_or a.word m) (shl_one (a.number % 64) (omega arith)))

pub returns-else-number-j : goal.returns-else-number-j
returns-else-number-j c = let a = c.args in simp (ne_eqb (a.number / 64) a.j c.if-number-j.false)
