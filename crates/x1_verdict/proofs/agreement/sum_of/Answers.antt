-- `x1_verdict::agreement::sum_of` meets its contract.
use Prim.Native.Nat.{◌+◌}
use mathlib.Core.Path.{◌∙◌, ap}
use lib.IntN.{ℤ, ◌+ℤ◌}
use Rattle.tables.specs.Table.{signed_of}
use Rattle.x1_verdict.specs.Agreement.{field_row}
use Rattle.x1_verdict.proofs.Starts.{start_handed, start_small, sum_handed}
use Rattle.x1_verdict.proofs.agreement.sum_of.Goals as goal

pub sum_from-requires : goal.sum_from-requires
sum_from-requires c = let a = c.args in
    start_small a.axis.start.1 a.f.now (a.e + a.axis.start.0) c.signed_of.result c.signed_of.ensures

pub returns : goal.returns
returns c = let a = c.args in
    let h = start_handed a.axis.start.1 a.f.now (a.e + a.axis.start.0) c.signed_of.result c.signed_of.ensures in
    sum_handed a.f.now a.axis a.e a.p c.sum_from.result
    (record {
      is = c.sum_from.ensures.value ∙ ap (λ (z : ℤ). z +ℤ signed_of a.f.now a.p (field_row a.axis.increment)) h.is;
      small = c.sum_from.ensures.result_bound;
    })
