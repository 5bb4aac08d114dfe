-- `plan_routes::same` meets its contract.
use Rattle.std.proofs.Common.{◌∙◌, sym, ap, rules, tests, length}
use borrow.Author.Tests.{ne_eqb}
use Rattle.std.proofs.lemmas.List.{length-reverse}
use Rattle.std.proofs.lemmas.Iterator.{same_from_all, YieldsList-from_zip}
use Rattle.std.proofs.lemmas.Iterator.Consumers.{YieldsList-at}
use Rattle.std.proofs.lemmas.Iterator.Adapters.{YieldsList-from_rev_slice}
use mathlib.Core.List.{reverse}
use Rattle.plan_routes.proofs.Equal.{same_reversed, same_not}
use Rattle.plan_routes.proofs.same.Goals as goal

pub returns-then-a-b : goal.returns-then-a-b
returns-then-a-b c =
    let a = c.args.a.now in
    let b = c.args.b.now in
    same_reversed a b _ (same_from_all c.all.new.self _ _ (reverse a) (reverse b) c.all.ensures.ran
    (YieldsList-from_zip (YieldsList-at c.zip.ensures.first (YieldsList-from_rev_slice a cc)) (YieldsList-at c.zip.ensures.second (YieldsList-from_rev_slice b cc)))
    (length-reverse a ∙ c.if-a-b.true ∙ sym (length-reverse b)) (λ x q k. search (rules, tests)) (λ x q k. search (rules, tests)))

pub returns-else-a-b : goal.returns-else-a-b
returns-else-a-b c = ne_eqb _ _ c.if-a-b.false ∙ sym (same_not _ _ (λ e. c.if-a-b.false (ap length e)))
