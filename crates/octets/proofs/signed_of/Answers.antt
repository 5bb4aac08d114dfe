-- `octets::signed_of` meets its contract.
use Prim.Native.Nat.{◌+◌, ◌-◌, ◌^◌, ◌<◌}
use mathlib.Core.Path.{sym, ap, ◌∙◌}
use native.Mathlib.Omega.{arith}
use lib.IntN.{ℤ}
use mir.Syntax.{w64}
use mir.Val.{to_z, of_z}
use mir.Facts.{to_z_pos, to_z-neg}
use Rattle.octets.proofs.Signs.{minus, low, high}
use Rattle.octets.proofs.signed_of.Goals as goal

pub returns-then-n-half : goal.returns-then-n-half
returns-then-n-half c = let a = c.args in
    to_z_pos w64 (omega arith) ∙ sym (low a.half a.n c.if-n-half.true)

pub returns-else-n-half : goal.returns-else-n-half
returns-else-n-half c = let a = c.args in
    let m = a.half + a.half - 1 - a.n in
    let h : m < 2 ^ 63 = omega arith in
    ap (λ (z : ℤ). to_z w64 (of_z w64 z)) (minus m h) ∙ to_z-neg w64 m h ∙ sym (high a.half a.n c.if-n-half.false)
