-- THEOREM: the two route engines agree on every input, lent memory included, from the contracts of the two alone (02, ticket 12): as listers of a
-- layout, as answers to the question routes, and as C calls them.
use mathlib.Core.Path.{sym, ap, ap₂, ◌∙◌}
use mathlib.Core.List.{List}
use Prim.Native.Nat.{ℕ}
use Rattle.promises.specs.Agree.{Agree}
use Rattle.route_lister.proofs.list.Kinds as list-kinds
use Rattle.route_lister.proofs.list.Reads as list-reads
use Rattle.route_lister.proofs.list_flat.Reads as list-flat-reads
use Rattle.route_question.proofs.routes.Kinds as routes-kinds
use Rattle.route_question.proofs.routes.Reads as routes-reads
use Rattle.route_question.proofs.routes_flat.Reads as routes-flat-reads
use Rattle.exports.proofs.yard_routes.Kinds as yard-routes-kinds
use Rattle.exports.proofs.yard_routes.Reads as yard-routes-reads
use Rattle.exports.proofs.yard_routes_flat.Reads as yard-routes-flat-reads

pub listers_agree : Agree 2 list-kinds.ps list-kinds.r list-reads.Post list-flat-reads.Post
listers_agree κs a x y v w p q = (p.0 ∙ sym q.0, ap (λ (l : List ℕ). (tt, (tt, (tt, (tt, (tt, (l, tt))))))) (p.1 ∙ sym q.1))

pub questions_agree : Agree 2 routes-kinds.ps routes-kinds.r routes-reads.Post routes-flat-reads.Post
questions_agree κs a x y v w p q = (p.0 ∙ sym q.0, ap (λ (l : List ℕ). (tt, (tt, (tt, (tt, (l, tt)))))) (p.1 ∙ sym q.1))

pub calls_agree : Agree 3 yard-routes-kinds.ps yard-routes-kinds.r yard-routes-reads.Post yard-routes-flat-reads.Post
calls_agree κs a x y v w p q =
    (p.0 ∙ sym q.0, ap₂ (λ (l m : List ℕ). (tt, (tt, (tt, (tt, (l, (m, tt))))))) (p.1.0 ∙ sym q.1.0) (p.1.1 ∙ sym q.1.1))
