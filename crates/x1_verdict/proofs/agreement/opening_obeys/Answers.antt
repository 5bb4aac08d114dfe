-- `x1_verdict::agreement::opening_obeys` meets its contract.
use Prim.Native.Nat.{◌+◌}
use mathlib.Core.Path.{◌≡◌}
use mathlib.Core.Bool.{and-true}
use native.Mathlib.Omega.{arith}
use Rattle.tables.specs.Table.{field_place}
use Rattle.x1_records.specs.Rows.{near}
use Rattle.x1_verdict.proofs.agreement.opening_obeys.Goals as goal

pub returns : goal.returns
returns c = let a = c.args in
    let n = c.place_of.ensures in
    let second : c.place_of.result + a.size ≡ field_place (a.p + a.size) near = omega arith in
    simp (and-true, c.equals-near.ensures, c.byte_at-second.ensures.is, second, c.equals-longitude.ensures, c.equals-latitude.ensures, c.equals-position.ensures)
