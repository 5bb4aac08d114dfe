-- `plan_reading::take_route` meets its contract.
use native.Mathlib.Omega.{arith}
use mathlib.Core.Path.{refl, sym}
use lib.Seq.{length-take-le}
use Rattle.plan_reading.proofs.Cases.{elsewhere, again, full, taken}
use Rattle.plan_reading.proofs.take_route.Goals as goal

named_value_plan_after : {T0 T1 : Type 0} → T0 × T1 → record { value : T0; plan_after : T1 }
named_value_plan_after p = record { value = p.0; plan_after = p.1 }

pub returns-then-is_elsewhere : goal.returns-then-is_elsewhere
returns-then-is_elsewhere c = named_value_plan_after (elsewhere _ _ _ _ _ c.is_elsewhere.ensures c.if-is_elsewhere.true c.wrong.ensures)

pub slice_bounds-stands-end-2 : goal.slice_bounds-stands-end-2
slice_bounds-stands-end-2 c = sym (length-take-le _ _ (omega arith))

pub returns-then-stands : goal.returns-then-stands
returns-then-stands c = named_value_plan_after (again _ _ _ _ _ c.is_elsewhere.ensures c.if-is_elsewhere.false _ c.min-at.ensures _ c.stands.ensures c.if-stands.true c.wrong-then-stands.ensures)

pub returns-then-plan-at : goal.returns-then-plan-at
returns-then-plan-at c = named_value_plan_after (full _ _ _ _ _ c.is_elsewhere.ensures c.if-is_elsewhere.false _ c.min-at.ensures _ c.stands.ensures c.if-stands.false c.if-plan-at.true c.wrong-then-plan-at.ensures)

pub returns : goal.returns
returns c = let a = c.args in
    named_value_plan_after (taken a.route.now a.r a.plan.now _ _ c.is_elsewhere.ensures c.if-is_elsewhere.false _ c.min-at.ensures _ c.stands.ensures c.if-stands.false _ c.if-plan-at.false c.put.ensures refl)
