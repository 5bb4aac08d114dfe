-- `plan_routes::apart` meets its contract.
use Rattle.std.proofs.Common.{◌∙◌, rules, tests}
use Rattle.std.proofs.lemmas.Iterator.Consumers.{YieldsList-from_first, YieldsList-at, YieldsList-from_filter, count_from_yields_List}
use Rattle.plan_routes.specs.Routes.{routes_in, is_apart}
use Rattle.plan_routes.proofs.Among.{apart_filter}
use Rattle.plan_routes.proofs.apart.Goals as goal

pub returns : goal.returns
returns c =
    let a = c.args in
    count_from_yields_List c.filter.result _ c.count.ensures.ran (YieldsList-from_filter _ (λ r. is_apart r a.start (routes_in a.others.now)) (YieldsList-at c.filter.ensures.source (YieldsList-from_first (λ x. x.now) (λ s. routes_in s.0.now) {s = record { 0 = a.words }} (routes_in a.words.now) cc)) c.filter.ensures.closure (λ x b q k. search (rules, tests)))
    ∙ apart_filter (routes_in a.words.now) a.start (routes_in a.others.now)
