-- `plan_routes::is_apart` meets its contract.
use Rattle.std.proofs.Common.{refl}
use borrow.Author.Tests.{eq-eqb, ne_eqb}
use Rattle.plan_routes.proofs.Among.{no_start, first_start}
use Rattle.plan_routes.proofs.is_apart.Goals as goal

pub returns-in-empty : goal.returns-in-empty
returns-in-empty c = rw (no_start c.args.route.now c.args.start c.in-empty.len_below) refl

pub returns-then-from-start : goal.returns-then-from-start
returns-then-from-start c =
    let s = first_start c.args.route.now c.args.start c.in-len1-up.len_at_least in
    rw (s, ← c.from.ensures, eq-eqb _ _ c.if-from-start.true, c.stands.ensures) refl

pub returns-else-from-start : goal.returns-else-from-start
returns-else-from-start c =
    let s = first_start c.args.route.now c.args.start c.in-len1-up.len_at_least in
    rw (s, ← c.from.ensures, ne_eqb _ _ c.if-from-start.false) refl
