-- 01's yard Y read both ways (02, ticket 13): from 44 the route over the turnout to 68 is listed, and from 68 its reverse. Each listing has the
-- budget and the room that it needs and no more, so they differ in both.
use mathlib.Core.Path.{◌≡◌, refl, sym, subst, ◌∙◌}
use mathlib.Core.List.{[], ◌∷◌, Memᴰ}
use lib.ListN.{replicate}
use Rattle.verdict.specs.Verdicts.{Verdict}
use Rattle.std.specs.Prelude.{Ok, Err}
use Rattle.verdict.specs.Reasons.{number_in}
use Rattle.verdict.proofs.Questions.{no_fault, some_number}
use Rattle.x2_layout.specs.Layout.{layout_of}
use Rattle.x2_layout.specs.Groups.{groups_from, next_start, group_end, group_ends}
use Rattle.x2_verdict.specs.Facts.{verdict_of}
use Rattle.octets.specs.Octets.{num_at}
use Rattle.x2_obeys.specs.Links.{Target}
use Rattle.route_graph.specs.Objects.{object_at, boundary_starts}
use Rattle.route_walks.specs.Legal.{last_object, Route}
use Rattle.route_walks.specs.Walks.{all_routes, words_of}
use Rattle.route_walks.proofs.Order.{all_routes_lem}
use Rattle.std.specs.Prelude.{Err}
use Rattle.route_lister.specs.Answered.{limit_of, judged, answer_at}
use Rattle.route_question.specs.Routes.{routes_asked}
use Rattle.plan_routes.proofs.Listed.{words_one_way}
use Rattle.route_theorems.proofs.Listed.{linked, place}
use Rattle.route_backwards.specs.Backwards.{ListedTo, NotRefused, seen_of}
use Rattle.route_backwards.proofs.Backwards.{listed_iff, lists_back}
use Rattle.examples_proved.specs.Table.{y, worked}
use Rattle.examples_proved.specs.Judged as judged-cases

no_number : (v : Verdict) → number_in v ≡ 0 → v ≡ Ok tt
no_number (Ok tt) e = refl
no_number (Err t) e = absurd (some_number t.reason e)

accepted : verdict_of y ≡ Ok tt
accepted = no_number (verdict_of y) (judged-cases.judged).0.0

-- the two listings, in bytes that hold just their words
pub from_44 : NotRefused
unfolding routes_asked answer_at judged limit_of boundary_starts layout_of groups_from next_start group_end group_ends num_at
from_44 = record {
  file = y;
  start = 44;
  limit = 8;
  budget = 4;
  lent = replicate 16 0;
  tally = record { walks = 4; routes = 2; words = 8 };
  listed = no_fault Err (verdict_of y) _ accepted ∙ rw worked.1.1.1.1.1.1.1.1.1.0.0 refl;
}

pub from_68 : NotRefused
unfolding routes_asked answer_at judged limit_of boundary_starts layout_of groups_from next_start group_end group_ends num_at
from_68 = record {
  file = y;
  start = 68;
  limit = 8;
  budget = 3;
  lent = replicate 8 0;
  tally = record { walks = 3; routes = 1; words = 4 };
  listed = no_fault Err (verdict_of y) _ accepted ∙ rw worked.1.1.1.1.1.1.1.1.1.1.0.0 refl;
}

-- every route from 44, as 01's example has their words
from_44_are : all_routes (object_at y (layout_of y)) 44 8 ≡ (44 ∷ 80 ∷ 56 ∷ []) ∷ (44 ∷ 80 ∷ 68 ∷ []) ∷ []
unfolding words_of
from_44_are = words_one_way _ _ worked.1.1.1.1.1.1.1.1.1.0.1

-- THEOREM: the route over the turnout is listed from 44 to 68
pub there : ListedTo (seen_of from_44) 68 (44 ∷ 80 ∷ 68 ∷ [])
unfolding limit_of last_object boundary_starts layout_of groups_from next_start group_end group_ends num_at from_44
there = record { listed = (listed_iff from_44 _).1 route; ends_at = refl }
  where
    route : Route (object_at y (layout_of y)) 44 8 (44 ∷ 80 ∷ 68 ∷ [])
    route =
        (all_routes_lem (object_at y (layout_of y)) (Target y (layout_of y)) (linked y accepted) 44 8 (place y accepted 44 refl)).exactly.sound _
        (subst (Memᴰ (44 ∷ 80 ∷ 68 ∷ [])) (sym from_44_are) (Memᴰ.tail (Memᴰ.head refl)))

-- THEOREM: so its reverse is listed from 68 to 44
pub back : ListedTo (seen_of from_68) 44 (68 ∷ 80 ∷ 44 ∷ [])
unfolding limit_of from_44 from_68
back = (lists_back from_44 from_68 refl refl (44 ∷ 80 ∷ 68 ∷ [])).0 there
