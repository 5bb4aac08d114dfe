-- `plan_lines::said_line` meets its contract.
use Rattle.std.proofs.Common.{sym, ◌∙◌}
use Rattle.plan_lines.specs.Lines.{is_from}
use Rattle.plan_lines.proofs.Says.{line_none, line_from, line_route}
use Rattle.plan_lines.proofs.said_line.Goals as goal
use Rattle.plan_lines.proofs.said_line.Goals.{in_default-via-in-Some+else-eq, in_default-via-in_default}

pub returns-in-Some : goal.returns-in-Some
unfolding is_from
returns-in-Some c = c.from_line.ensures ∙ line_from _ _ _ c.in-Some.ensures.steps (sym c.eq.ensures ∙ c.if-eq.true)

pub returns-in_default : goal.returns-in_default
unfolding is_from
returns-in_default c =
    c.route_line.ensures
    ∙ (elim c.in_default.branch [
      | in_default-via-in-Some+else-eq w ↦ line_route _ _ _ w.in-Some.ensures.steps (sym w.eq.ensures ∙ w.if-eq.false)
      | in_default-via-in_default w ↦ line_none _ w.in_default.ensures.steps.0
    ])
