-- `plan_lines::route_line` meets its contract.
use Rattle.std.proofs.Common.{sym, ◌∙◌}
use Rattle.plan_lines.proofs.Says.{route_word, route_none, route_few, route_many, route-some}
use Rattle.plan_lines.proofs.route_line.Goals as goal

pub returns-in-None : goal.returns-in-None
returns-in-None c = route_word _ (sym c.in-None.is ∙ c.counted.ensures)

pub returns-in-Some-eq0 : goal.returns-in-Some-eq0
returns-in-Some-eq0 c = route_none _ _ (sym c.in-Some-eq0.is ∙ c.counted.ensures) c.in-Some-eq0.field-0-test

pub returns-in-Some : goal.returns-in-Some
returns-in-Some c = route_few _ _ (sym c.in-Some.is ∙ c.counted.ensures) c.in-Some.n-test.1 c.if-n-lt-ROUTE_LEAST.true

pub returns-in-Some-2 : goal.returns-in-Some-2
returns-in-Some-2 c = route_many _ _ (sym c.in-Some.is ∙ c.counted.ensures) c.if-n-gt-ROUTE_MOST.true

pub returns-in-Some-3 : goal.returns-in-Some-3
returns-in-Some-3 c = route-some _ _ (sym c.in-Some.is ∙ c.counted.ensures) c.if-n-lt-ROUTE_LEAST.false c.if-n-gt-ROUTE_MOST.false
