-- `plan_lines::counted` meets its contract.
use Rattle.std.proofs.Common.{rules, sym, arith, ◌∙◌, ap, length}
use Rattle.plan_lines.proofs.Says.{count_stop, count_more, count_end}
use Rattle.plan_lines.proofs.counted.Goals as goal

pub returns-in_err-offset : goal.returns-in_err-offset
returns-in_err-offset c = rw c.from_residual.ensures (count_stop _ _ c.loop-word.invariant.tested _ _ c.in-Some.ensures.steps (sym c.in_err-offset.was ∙ c.offset.ensures))

pub loop-word-preserved : goal.loop-word-preserved
loop-word-preserved c =
    let e = c.in-Some.ensures.steps in
    record {
      bound = let g = (c.in-Some.ensures.goes.on (search rules)).2 in omega (arith, c.loop-word.invariant.bound);
      counted = omega (arith, c.loop-word.invariant.counted, ap length e);
      tested = count_more _ _ c.loop-word.invariant.tested _ _ e _ (sym c.in_ok-offset.was ∙ c.offset.ensures);
    }

pub returns : goal.returns
returns c = count_end _ _ c.loop-word.invariant.tested _ c.in-None.ensures.steps.0 c.loop-word.invariant.counted
