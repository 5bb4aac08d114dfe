-- `plan_routes::stands` meets its contract.
use Rattle.std.proofs.Common.{◌∙◌, rules, tests}
use Rattle.std.proofs.lemmas.Iterator.Search.{any_from_yields_List}
use Rattle.std.proofs.lemmas.Iterator.Consumers.{YieldsList-from_first}
use Rattle.plan_routes.specs.Routes.{routes_in, same_route}
use Rattle.plan_routes.proofs.Among.{among_any}
use Rattle.plan_routes.proofs.stands.Goals as goal

pub returns : goal.returns
returns c =
    any_from_yields_List (λ q. same_route q c.args.route.now) c.any.new.self _ _ c.any.ensures.ran (YieldsList-from_first (λ x. x.now) (λ s. routes_in s.0.now) {s = record { 0 = c.args.words }} (routes_in c.args.words.now) cc) (λ x b q k. search (rules, tests))
    ∙ among_any (routes_in c.args.words.now) c.args.route.now
