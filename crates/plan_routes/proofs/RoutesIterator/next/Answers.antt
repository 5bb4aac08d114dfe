-- `plan_routes::RoutesIterator::next` meets its contract.
use Rattle.std.proofs.Common.{◌∙◌, sym, arith, length}
use borrow.Author.Rules.{part_to_end}
use borrow.Author.Tests.{eqb-true, eqb-false}
use Rattle.plan_routes.proofs.Words.{next_route, no_routes}
use Rattle.plan_routes.proofs.RoutesIterator.next.Goals as goal

pub returns-then-is_empty-clause-steps : goal.returns-then-is_empty-clause-steps
returns-then-is_empty-clause-steps c =
    let e = no_routes c.args.self.now.0.now (eqb-true _ _ (sym c.is_empty.ensures ∙ c.if-is_empty.true)) in
    (e, e)

pub returns-clause-steps : goal.returns-clause-steps
returns-clause-steps c =
    let n = eqb-false (length c.args.self.now.0.now) 0 (sym c.is_empty.ensures ∙ c.if-is_empty.false) in
    let e = next_route c.args.self.now.0.now _ (omega arith) c.route_end.ensures in
    rw (part_to_end c.split_at.result.0.now 1, c.split_at.ensures.front, c.split_at.ensures.back) e
