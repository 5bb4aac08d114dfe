-- THEOREM: what the question 'routes' answers, for every input: the file's own fault, or what the question's own checks say. It is one of
-- five cases: the file's own fault, 13, 14, 15, or a listing, whose number is 0.
use Prim.Native.Nat.{ℕ, ◌≤◌}
use native.Mathlib.Omega.{arith}
use mathlib.Core.Path.{◌≡◌, refl, sym, ap, ◌∙◌}
use mathlib.Core.Bool.{Bool, true, false, true≢false}
use mathlib.Core.Logic.{◌↔◌}
use mathlib.Core.List.{List, [], ◌∷◌}
use lib.ListN.{length}
use lib.Dec.{ltb}
use borrow.Author.Tests.{ltb-true, ltb-false}
use Rattle.verdict.specs.declared.Reason.TheVariants as reason
use Rattle.std.specs.Prelude.{Ok, Err}
use Rattle.verdict.specs.Answers.{Answer, answered, refused, answer_number, answer_place, refusal}
use Rattle.verdict.specs.Order.{Check, check, Asked}
use Rattle.verdict.proofs.Questions.{asked_is, AnswerIs, all_passed, passed, failed, some_number}
use Rattle.x2_layout.specs.Layout.{layout_of}
use Rattle.x2_obeys.specs.Links.{Target}
use Rattle.x2_verdict.specs.Facts.{verdict_of}
use Rattle.route_graph.specs.Objects.{object_at, boundary_starts}
use Rattle.route_walks.specs.declared.Tally.{Tally}
use Rattle.route_walks.specs.Legal.{Walk, Route}
use Rattle.route_walks.specs.Walks.{all_walks, all_routes, words_of}
use Rattle.route_walks.proofs.Order.{walks_counted, all_routes_lem}
use Rattle.route_walks.proofs.Count.{one_number, one_length}
use Rattle.std.specs.Prelude.{Ok, Err}
use Rattle.route_lister.specs.Answered.{RoutesAnswer, limit_of, in_range, tally_of, judged, answer_at, answer_in, tally_values, routes_answer}
use Rattle.route_lister.proofs.Whole.{in_range_iff}
use Rattle.route_theorems.specs.Asked.{BoundaryHere, InRange, StepsFew, RoomEnough, routes_checks}
use Rattle.route_question.specs.Routes.{routes_asked}
use Rattle.route_theorems.proofs.Listed.{linked}
use Rattle.route_theorems.proofs.Range.{range_iff, target}

module _ (f : List ℕ) (e : verdict_of f ≡ Ok tt) (start limit budget room : ℕ) where
  -- ---- the walks and the words, counted in the computed lists

  abbrev walk_count : ℕ
  walk_count = length (all_walks (object_at f (layout_of f)) start (limit_of limit))

  abbrev word_count : ℕ
  word_count = length (words_of (all_routes (object_at f (layout_of f)) start (limit_of limit)))

  few_iff : BoundaryHere f start → (walk_count ≤ budget) ↔ StepsFew f start limit budget
  few_iff here =
      let counted = walks_counted (object_at f (layout_of f)) (Target f (layout_of f)) (linked f e) start (limit_of limit) (target f e start here) in (
        λ h. record { walks = walk_count; number = counted; few = h },
        λ s. let same = one_number (Walk (object_at f (layout_of f)) start (limit_of limit)) walk_count s.walks counted s.number in let h = s.few in omega arith,
      )

  enough_iff : BoundaryHere f start → (word_count ≤ room) ↔ RoomEnough f start limit room
  enough_iff here =
      let routes = all_routes (object_at f (layout_of f)) start (limit_of limit) in
      let all = all_routes_lem (object_at f (layout_of f)) (Target f (layout_of f)) (linked f e) start (limit_of limit) (target f e start here) in (
        λ h. record { routes = routes; all = all; enough = h },
        λ s. let same = one_length (Route (object_at f (layout_of f)) start (limit_of limit)) routes s.routes all.exactly s.all.exactly in let h = s.enough in omega arith,
      )

  -- ---- the answer, by what the three tests say

  abbrev tally : Tally
  tally = tally_of (object_at f (layout_of f)) start (limit_of limit)

  -- the checks from the third on, and from the second on
  abbrev third : List Check
  third = check 15 (RoomEnough f start limit room) (λ p. p ≡ 0) ∷ []

  abbrev second : List Check
  second = check 14 (StepsFew f start limit budget) (λ p. p ≡ 0) ∷ third

  routes_own : (r s t : Bool) → in_range (boundary_starts (layout_of f) start) (limit_of limit) budget ≡ r → ltb budget walk_count ≡ s → ltb room word_count ≡ t
      → AnswerIs (routes_answer (judged r s t tally)) (routes_checks f start limit budget room)
  unfolding judged
  routes_own false s t p q u =
      failed (InRange f start limit budget) second reason.Question 3
      (λ h. true≢false (sym ((in_range_iff (boundary_starts (layout_of f) start) (limit_of limit) budget).1 ((range_iff f e start limit budget).1 h)) ∙ p))
  routes_own true s t p q u = in_range_lem s t q u ((range_iff f e start limit budget).0 ((in_range_iff (boundary_starts (layout_of f) start) (limit_of limit) budget).0 p))
    where
      in_range_lem : (s t : Bool) → ltb budget walk_count ≡ s → ltb room word_count ≡ t → InRange f start limit budget → AnswerIs (routes_answer (judged true s t tally)) (routes_checks f start limit budget room)
      in_range_lem true t q u r =
          let many = ltb-true budget walk_count q in
          passed (InRange f start limit budget) second 13 (refused 3 (refusal reason.Steps)) r (λ z. omega arith)
          (failed (StepsFew f start limit budget) third reason.Steps 3 (λ h. let g = (few_iff r.boundary).1 h in omega arith))
      in_range_lem false true q u r =
          let few = (few_iff r.boundary).0 (ltb-false budget walk_count q) in
          let more = ltb-true room word_count u in
          let a = refused 3 (refusal reason.Room) in
          passed (InRange f start limit budget) second 13 a r (λ z. omega arith)
          (passed (StepsFew f start limit budget) third 14 a few (λ z. omega arith)
          (failed (RoomEnough f start limit room) [] reason.Room 3 (λ h. let g = (enough_iff r.boundary).1 h in omega arith)))
      in_range_lem false false q u r =
          let few = (few_iff r.boundary).0 (ltb-false budget walk_count q) in
          let enough = (enough_iff r.boundary).0 (ltb-false room word_count u) in
          let a = answered (tally_values tally) in
          passed (InRange f start limit budget) second 13 a r (λ z. omega arith)
          (passed (StepsFew f start limit budget) third 14 a few (λ z. omega arith)
          (passed (RoomEnough f start limit room) [] 15 a enough (λ z. omega arith) (all_passed (tally_values tally))))

-- ---- the answer

module _ (f : List ℕ) (start limit budget room : ℕ) where
  abbrev answer : Answer
  answer = routes_answer (routes_asked f start limit budget room)

  -- THEOREM: the file's own fault; then 13 exactly where the question is not in range, 14 exactly where the partial walks outnumber the
  -- budget, 15 exactly where the words of all routes find no room; and 0 where none of these is so.
  pub routes_asked_lem : (n p : ℕ) → ((answer_number answer ≡ n) × (answer_place answer ≡ p)) ↔ Asked (verdict_of f) (routes_checks f start limit budget room) n p
  unfolding routes_asked answer_at tally_of
  routes_asked_lem n p =
      asked_is Err routes_answer (verdict_of f) (answer_in f (layout_of f) start limit budget room) (routes_checks f start limit budget room) (λ t. (refl, refl))
      (λ e. (routes_own f e start limit budget room (in_range (boundary_starts (layout_of f) start) (limit_of limit) budget) _ _ refl refl refl).exactly) n p

  -- THEOREM: the cases exclude each other: a question has one number and one place.
  pub one_case : (n p m q : ℕ) → Asked (verdict_of f) (routes_checks f start limit budget room) n p → Asked (verdict_of f) (routes_checks f start limit budget room) m q → (n ≡ m) × (p ≡ q)
  one_case n p m q a b =
      let x = (routes_asked_lem n p).1 a in
      let y = (routes_asked_lem m q).1 b in
      (sym x.0 ∙ y.0, sym x.1 ∙ y.1)

-- THEOREM: the number is 0 exactly where the routes are listed.
pub listed_iff : (r : RoutesAnswer) → (answer_number (routes_answer r) ≡ 0) ↔ ((t : Tally) × (r ≡ Ok t))
listed_iff (Ok t) = (λ e. (t, refl), λ h. refl)
listed_iff (Err t) = (λ e. absurd (some_number t.reason e), λ h. ap (λ (r : RoutesAnswer). answer_number (routes_answer r)) h.1)
