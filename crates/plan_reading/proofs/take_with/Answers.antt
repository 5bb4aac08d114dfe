-- `plan_reading::take_with` meets its contract.
use native.Mathlib.Omega.{arith}
use mathlib.Core.Path.{sym, ap, ◌∙◌}
use lib.Seq.{length-take-le}
use borrow.Author.Rules.{rules}
use Rattle.std.specs.Prelude.{Ok, Err}
use Rattle.plan_lines.specs.declared.Line.TheVariants as line
use Rattle.plan_lines.specs.declared.Slip.TheVariants as slip
use Rattle.plan_reading.specs.Reading.{taken_by, left_by}
use Rattle.plan_reading.proofs.Lines.{by_line, route_size, front_size, fits, by_route, err_line}
use Rattle.plan_reading.proofs.take_with.Goals as goal

named_value_plan_after : {T0 T1 : Type 0} → T0 × T1 → record { value : T0; plan_after : T1 }
named_value_plan_after p = record { value = p.0; plan_after = p.1 }

pub slice_bounds-take_route-end : goal.slice_bounds-take_route-end
slice_bounds-take_route-end c = fits _ c.args.r c.args.plan.now _ c.read.ensures.value _ (c.in-Ok-Route.is ∙ ap Ok c.in-Ok-Route.field-0-is) _ _ c.requires c.read.ensures.out_after

pub slice_bounds-take_route-end-in-Ok-Route : goal.slice_bounds-take_route-end-in-Ok-Route
slice_bounds-take_route-end-in-Ok-Route c = sym (length-take-le _ _ (fits _ c.args.r c.args.plan.now _ c.read.ensures.value _ (c.in-Ok-Route.is ∙ ap Ok c.in-Ok-Route.field-0-is) _ _ c.requires c.read.ensures.out_after))

pub take_route-requires : goal.take_route-requires
take_route-requires c = let size = route_size _ c.args.r c.args.plan.now _ c.read.ensures.value _ (c.in-Ok-Route.is ∙ ap Ok c.in-Ok-Route.field-0-is) in
    let front = front_size _ c.args.r c.args.plan.now _ c.read.ensures.value _ (c.in-Ok-Route.is ∙ ap Ok c.in-Ok-Route.field-0-is) _ _ c.requires c.read.ensures.out_after in
    (omega (arith, size.0, front), omega (arith, size.1, front))

pub returns-in-Ok-Empty : goal.returns-in-Ok-Empty
unfolding taken_by left_by
returns-in-Ok-Empty c = named_value_plan_after (by_line _ _ _ _ c.read.ensures.value (Ok line.Empty) (c.in-Ok-Empty.is ∙ ap Ok c.in-Ok-Empty.field-0-is))

pub returns-in-Ok-From : goal.returns-in-Ok-From
unfolding taken_by left_by
returns-in-Ok-From c = rw c.from.ensures (named_value_plan_after (by_line _ _ _ _ c.read.ensures.value (Ok (line.From _)) (c.in-Ok-From.is ∙ ap Ok c.in-Ok-From.field-0-is)))

pub returns-in-Ok-Route : goal.returns-in-Ok-Route
returns-in-Ok-Route c = named_value_plan_after (by_route _ c.args.r c.args.plan.now _ c.read.ensures.value _ (c.in-Ok-Route.is ∙ ap Ok c.in-Ok-Route.field-0-is) _ _ c.requires c.read.ensures.out_after _ _ c.take_route.ensures.value c.take_route.ensures.plan_after)

pub returns-in-Err-From : goal.returns-in-Err-From
unfolding taken_by left_by
returns-in-Err-From c = named_value_plan_after (by_line _ _ _ _ c.read.ensures.value (Err slip.From) (c.in-Err-From.is ∙ ap Err c.in-Err-From.field-0-is))

pub returns-in-Err : goal.returns-in-Err
unfolding left_by
returns-in-Err c = let l = by_line _ _ _ _ c.read.ensures.value (Err _) c.in-Err.is in
    record { value = c.wrong.ensures ∙ sym (err_line _ _ _ _ (search rules)) ∙ l.0; plan_after = l.1 }
