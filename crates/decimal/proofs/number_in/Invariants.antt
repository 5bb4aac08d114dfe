-- `decimal::number_in` meets its contract. The loop's invariant: the digits passed are the number n, or more than can be told where n is
-- `none`: n and the rest of the text make the same number as the whole text.
use mathlib.Core.Path.{◌≡◌}
use Prim.Native.Nat.{◌≤◌}
use lib.ListN.{drop}
use Rattle.decimal.specs.Decimal.{number_in}
use Rattle.decimal.proofs.Digits.{number_from}
use Rattle.decimal.proofs.number_in.Given as goal

abbrev pub invariant-loop-c : goal.invariant-loop-c
invariant-loop-c l = (l.n ≤ l.none) × (number_from l.n (drop l.c-index l.text) l.none ≡ number_in l.text l.most)
