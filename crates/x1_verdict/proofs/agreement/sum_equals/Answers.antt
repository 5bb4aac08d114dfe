-- `x1_verdict::agreement::sum_equals` meets its contract.
use mathlib.Core.Path.{◌≡◌, ap, ◌∙◌}
use native.Mathlib.Omega.{arith}
use lib.IntN.{ℤ, nat_abs, ◌+ℤ◌, ◌-ℤ◌}
use Rattle.octets.proofs.Signs.{kept}
use Rattle.octets.proofs.Sizes.{minus_fits, minus_read}
use Rattle.tables.specs.Table.{signed_of}
use Rattle.x1_verdict.specs.Agreement.{field_row}
use Rattle.x1_verdict.proofs.agreement.sum_equals.Goals as goal

pub overflow_sub-sum_from : goal.overflow_sub-sum_from
overflow_sub-sum_from c = minus_fits c.sum_from.result c.args.end (omega (arith, c.sum_from.ensures.result_bound)) (omega (arith, c.requires.1))

pub returns : goal.returns
returns c = let s = c.sum_from in
    let a = c.args in
    let start = kept a.start (omega (arith, c.requires.0)) in
    let far : c.distance.result ≡ nat_abs (a.start +ℤ signed_of a.f.now a.p (field_row a.increment) -ℤ a.end) =
    c.distance.ensures
    ∙ ap nat_abs (minus_read s.result a.end (omega (arith, c.sum_from.ensures.result_bound)) (omega (arith, c.requires.1))
    ∙ ap (λ (z : ℤ). z -ℤ a.end) (c.sum_from.ensures.value ∙ ap (λ (z : ℤ). z +ℤ signed_of a.f.now a.p (field_row a.increment)) start))
    in
    simp far
