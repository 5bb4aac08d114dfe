-- `x1_verdict::agreement::sum_from` meets its contract.
use Prim.Native.Nat.{◌^◌, ◌<◌}
use mathlib.Core.Path.{sym, ◌∙◌, ap, subst}
use native.Mathlib.Omega.{arith}
use lib.IntN.{ℤ, ◌+ℤ◌}
use lib.Signed.{mag}
use Rattle.octets.proofs.Signs.{half_most}
use Rattle.octets.proofs.Sizes.{add-fits, add_read, mag_add}
use Rattle.x1_verdict.proofs.agreement.sum_from.Goals as goal

pub overflow_add-result : goal.overflow_add-result
overflow_add-result c = let q = c.signed_of.ensures.small in
    let k = half_most c.args.increment.1 in
    add-fits c.args.start c.signed_of.result (omega (arith, c.requires)) (omega arith)

pub returns : goal.returns
returns c = let x = c.args.start in
    let y = c.signed_of.result in
    let q = c.signed_of.ensures.small in
    let k = half_most c.args.increment.1 in
    let e = add_read x y (omega (arith, c.requires)) (omega arith) in
    let m = mag_add x y (2 ^ 31) (2 ^ 31) (omega (arith, c.requires)) (omega arith) in
    let h : mag (x +ℤ y) < 2 ^ 33 = omega arith in
    record { value = e ∙ ap (λ (z : ℤ). x +ℤ z) c.signed_of.ensures.is; result_bound = subst (λ (z : ℤ). mag z < 2 ^ 33) (sym e) h }
