-- `x1_verdict::agreement::sum_lies_within` meets its contract.
use mathlib.Core.Path.{◌≡◌, ap, ◌∙◌}
use native.Mathlib.Omega.{arith}
use lib.IntN.{ℤ, nat_abs, ◌+ℤ◌}
use Rattle.octets.proofs.Signs.{kept}
use Rattle.tables.specs.Table.{signed_of}
use Rattle.x1_verdict.specs.Agreement.{field_row}
use Rattle.x1_verdict.proofs.agreement.sum_lies_within.Goals as goal

pub returns : goal.returns
returns c = let s = c.sum_from in
    let a = c.args in
    let start = kept a.start (omega (arith, c.requires)) in
    let far : c.distance.result ≡ nat_abs (a.start +ℤ signed_of a.f.now a.p (field_row a.increment)) =
    c.distance.ensures ∙ ap nat_abs (kept s.result (omega (arith, c.sum_from.ensures.result_bound)) ∙ c.sum_from.ensures.value ∙ ap (λ (z : ℤ). z +ℤ signed_of a.f.now a.p (field_row a.increment)) start)
    in
    simp far
