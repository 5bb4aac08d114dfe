-- `rounding::coordinate` meets its contract: inside the limits it finds the coordinate in two steps, else it answers none.
use mathlib.Core.Path.{sym, ap, ap₂, ◌∙◌}
use native.Mathlib.Omega.{arith}
use lib.IntN.{ℤ, nat_abs}
use Rattle.octets.proofs.Signs.{kept, read}
use Rattle.std.specs.Prelude.{Some}
use Rattle.rounding.specs.Way.{farthest, way_of}
use Rattle.rounding.proofs.Ends.{exact_size}
use Rattle.rounding.proofs.Answers.{limits, found, outside}
use Rattle.rounding.proofs.coordinate.Goals as goal

pub exact-requires : goal.exact-requires
exact-requires c = let a = c.args in
    limits (read a.y0) (read a.y1) a.t a.den (sym c.inside.ensures ∙ c.if-inside.true)

pub nearest-requires : goal.nearest-requires
nearest-requires c = let a = c.args in
    let l = limits (read a.y0) (read a.y1) a.t a.den (sym c.inside.ensures ∙ c.if-inside.true) in
    let e = ap nat_abs (kept c.exact.result c.exact.type_inv ∙ c.exact.ensures) in
    (l.some, l.short, omega (arith, e, exact_size (read a.y0) (read a.y1) a.t a.den l.on farthest l.first l.last))

pub returns-then-inside : goal.returns-then-inside
returns-then-inside c = let a = c.args in
    ap Some (kept c.nearest.result c.nearest.type_inv)
    ∙ found (read a.y0) (read a.y1) a.t a.den
    (sym c.inside.ensures ∙ c.if-inside.true)
    (kept c.exact.result c.exact.type_inv ∙ c.exact.ensures)
    c.nearest.ensures
    ∙ ap₂ (λ (x y : ℤ). way_of x y a.t a.den) (kept a.y0 c.ranges.y0.sfits) (kept a.y1 c.ranges.y1.sfits)

pub returns-else-inside : goal.returns-else-inside
returns-else-inside c = let a = c.args in
    sym (outside (read a.y0) (read a.y1) a.t a.den (sym c.inside.ensures ∙ c.if-inside.false))
    ∙ ap₂ (λ (x y : ℤ). way_of x y a.t a.den) (kept a.y0 c.ranges.y0.sfits) (kept a.y1 c.ranges.y1.sfits)
