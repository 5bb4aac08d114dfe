-- `x1_lookup::presence::Presence::word_of` meets its contract.
use Prim.Native.Nat.{◌/◌}
use mathlib.Core.Path.{◌≡◌, sym, ap}
use native.Mathlib.Omega.{arith}
use Rattle.x1_lookup.specs.Presence.{word_at}
use Rattle.x1_lookup.proofs.Present.{no_word}
use Rattle.x1_lookup.proofs.presence.Presence.word_of.Goals as goal

pub returns-then-number-lt-SECOND : goal.returns-then-number-lt-SECOND
returns-then-number-lt-SECOND c = let a = c.args in
    let j : a.number / 64 ≡ 0 = omega (arith, c.if-number-lt-SECOND.true) in
    sym (ap (word_at a.self) j)

pub returns-then-number-lt-THIRD : goal.returns-then-number-lt-THIRD
returns-then-number-lt-THIRD c = let a = c.args in
    let j : a.number / 64 ≡ 1 = omega (arith, c.if-number-lt-THIRD.true, c.if-number-lt-SECOND.false) in
    sym (ap (word_at a.self) j)

pub returns-then-number-lt-FOURTH : goal.returns-then-number-lt-FOURTH
returns-then-number-lt-FOURTH c = let a = c.args in
    let j : a.number / 64 ≡ 2 = omega (arith, c.if-number-lt-FOURTH.true, c.if-number-lt-THIRD.false) in
    sym (ap (word_at a.self) j)

pub returns-then-number-lt-ABOVE : goal.returns-then-number-lt-ABOVE
returns-then-number-lt-ABOVE c = let a = c.args in
    let j : a.number / 64 ≡ 3 = omega (arith, c.if-number-lt-ABOVE.true, c.if-number-lt-FOURTH.false) in
    sym (ap (word_at a.self) j)

pub returns-else-number-lt-ABOVE : goal.returns-else-number-lt-ABOVE
returns-else-number-lt-ABOVE c = let a = c.args in sym (no_word a.self (a.number / 64) (omega (arith, c.if-number-lt-ABOVE.false)))
