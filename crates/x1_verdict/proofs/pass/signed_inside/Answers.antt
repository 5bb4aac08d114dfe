-- `x1_verdict::pass::signed_inside` meets its contract.
use Prim.Native.Nat.{◌+◌, ◌-◌, ◌^◌, ◌<◌}
use mathlib.Core.Path.{sym, ap, ◌∙◌, subst⁻¹}
use native.Mathlib.Omega.{arith}
use mir.Syntax.{w64}
use mir.Val.{SFits}
use mir.Facts.{to_z_pos, to_z-neg}
use Rattle.octets.specs.declared.Width.TheVariants.{Four}
use Rattle.octets.proofs.Signs.{read, minus, low, high, of_number}
use Rattle.x1_verdict.proofs.pass.signed_inside.Goals as goal

pub overflow_sub-result-else-n-half-2 : goal.overflow_sub-result-else-n-half-2
overflow_sub-result-else-n-half-2 c = let half = c.half-half in
    let n = c.four_inside-n in
    let m = half.result + half.result - 1 - n.result in
    let h : m < 2 ^ 63 = omega (arith, half.ensures) in
    subst⁻¹ (SFits w64) (minus m h) (record { sfits = h })

pub returns-then-n-half : goal.returns-then-n-half
returns-then-n-half c = let half = c.half-half in
    let n = c.four_inside-n in
    of_number Four _ _ n.result half.result _ n.ensures half.ensures (to_z_pos w64 (omega (arith, n.ensures.below)) ∙ sym (low half.result n.result c.if-n-half.true))

pub returns-else-n-half : goal.returns-else-n-half
returns-else-n-half c = let half = c.half-half in
    let n = c.four_inside-n in
    let m = half.result + half.result - 1 - n.result in
    let h : m < 2 ^ 63 = omega (arith, half.ensures) in
    of_number Four _ _ n.result half.result _ n.ensures half.ensures (ap read (minus m h) ∙ to_z-neg w64 m h ∙ sym (high half.result n.result c.if-n-half.false))
