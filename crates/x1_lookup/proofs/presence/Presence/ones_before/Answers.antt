-- `x1_lookup::presence::Presence::ones_before` meets its contract.
use Prim.Native.Nat.{ℕ, ◌*◌, ◌/◌}
use mathlib.Core.Path.{◌≡◌, sym, ap, ◌∙◌}
use native.Mathlib.Omega.{arith}
use lib.Count.{ones-le}
use Rattle.x1_lookup.specs.Presence.{below}
use Rattle.x1_lookup.proofs.Present.{to_first, to_second, to_third, to_fourth}
use Rattle.x1_lookup.proofs.presence.Presence.ones_before.Goals as goal

pub overflow_add-second : goal.overflow_add-second
overflow_add-second c = let w = c.args.self in
    let fits = c.struct_known-2-1.given in
    let first = ones-le 64 w.first fits.0.fits in
    let second = ones-le 64 w.second fits.1.0.fits in
    record { fits = omega arith }

pub overflow_add-third : goal.overflow_add-third
overflow_add-third c = let w = c.args.self in
    let fits = c.struct_known-3-1.given in
    let first = ones-le 64 w.first fits.0.fits in
    let second = ones-le 64 w.second fits.1.0.fits in
    let third = ones-le 64 w.third fits.1.1.0.fits in
    record { fits = omega arith }

pub returns-then-number-lt-SECOND : goal.returns-then-number-lt-SECOND
returns-then-number-lt-SECOND c = let a = c.args in
    let j : a.number / 64 ≡ 0 = omega (arith, c.if-number-lt-SECOND.true) in
    record { is = sym (ap (λ (j : ℕ). below a.self (64 * j)) j ∙ to_first a.self); small = omega arith }

pub returns-then-number-lt-THIRD : goal.returns-then-number-lt-THIRD
returns-then-number-lt-THIRD c = let a = c.args in
    let w = a.self in
    let j : a.number / 64 ≡ 1 = omega (arith, c.if-number-lt-THIRD.true, c.if-number-lt-SECOND.false) in
    let fits = c.struct_known-3-1.given in
    let first = ones-le 64 w.first fits.0.fits in
    record { is = sym (ap (λ (j : ℕ). below w (64 * j)) j ∙ to_second w fits.0.fits); small = omega arith }

pub returns-then-number-lt-FOURTH : goal.returns-then-number-lt-FOURTH
returns-then-number-lt-FOURTH c = let a = c.args in
    let w = a.self in
    let j : a.number / 64 ≡ 2 = omega (arith, c.if-number-lt-FOURTH.true, c.if-number-lt-THIRD.false) in
    let fits = c.struct_known-3-1.given in
    let first = ones-le 64 w.first fits.0.fits in
    let second = ones-le 64 w.second fits.1.0.fits in
    record { is = sym (ap (λ (j : ℕ). below w (64 * j)) j ∙ to_third w fits.0.fits fits.1.0.fits); small = omega arith }

pub returns-else-number-lt-FOURTH : goal.returns-else-number-lt-FOURTH
returns-else-number-lt-FOURTH c = let w = c.args.self in
    let j : c.args.number / 64 ≡ 3 = omega (arith, c.requires, c.if-number-lt-FOURTH.false) in
    let fits = c.struct_known-3-1.given in
    let first = ones-le 64 w.first fits.0.fits in
    let second = ones-le 64 w.second fits.1.0.fits in
    let third = ones-le 64 w.third fits.1.1.0.fits in
    record { is = sym (ap (λ (j : ℕ). below w (64 * j)) j ∙ to_fourth w fits.0.fits fits.1.0.fits fits.1.1.0.fits); small = omega arith }
