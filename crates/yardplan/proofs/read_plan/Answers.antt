-- `yardplan::read_plan` meets its contract: each line that is taken leaves a line less to read, and past the last one all is read.
use Rattle.std.proofs.Common.{ap, ◌∙◌}
use Rattle.plan_reading.specs.ReadPlan.{ReadPlan}
use Rattle.plan_reading.proofs.After.{within_after}
use Rattle.plan_reading.proofs.TextLines.{read_more, read_end, named_more, named_end}
use Rattle.yardplan.proofs.read_plan.Goals as goal

pub loop-k-preserved : goal.loop-k-preserved
loop-k-preserved c =
    let e = c.in-Some.ensures.steps.0 in
    let w = within_after _ _ _ _ _ c.loop-k.invariant.fits c.take-taken.ensures.value c.take-taken.ensures.plan_after in
    record {
      fits = w.0;
      same_length = w.1 ∙ c.loop-k.invariant.same_length;
      read = read_more _ _ _ e _ _ _ _ c.take-taken.ensures.value c.take-taken.ensures.plan_after ∙ c.loop-k.invariant.read;
      marked = named_more _ _ _ e _ _ _ _ c.take-taken.ensures.value c.take-taken.ensures.plan_after _ _ c.tell.ensures ∙ c.loop-k.invariant.marked;
    }

pub returns-clause-value : goal.returns-clause-value
returns-clause-value c = ap (λ (p : ReadPlan). p.reading.words) (read_end _ c.in-None.ensures.steps.0.0 _ ∙ c.loop-k.invariant.read)

pub returns-clause-plan_after : goal.returns-clause-plan_after
returns-clause-plan_after c = ap (λ (p : ReadPlan). p.lent) (read_end _ c.in-None.ensures.steps.0.0 _ ∙ c.loop-k.invariant.read)

pub returns-clause-named_after : goal.returns-clause-named_after
returns-clause-named_after c = named_end _ c.in-None.ensures.steps.0.0 _ _ ∙ c.loop-k.invariant.marked
