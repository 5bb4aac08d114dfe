-- The answer means what 01 says, in a graph whose links are those of an accepted file: a listing has all routes; 13, 14 and 15 are answered
-- exactly where the question is out of range, where the partial walks outnumber the budget, and where there is less room than the routes
-- take; and a refusal leaves the bytes lent as they were.
use Prim.Native.Nat.{ℕ, ◌*◌, ◌≤◌, ◌<◌}
use native.Mathlib.Omega.{arith}
use mathlib.Core.Path.{◌≡◌, refl, sym, ap, subst, ◌∙◌}
use mathlib.Core.Bool.{Bool, true, false, true≢false}
use mathlib.Core.Logic.{◌↔◌}
use mathlib.Core.List.{List, ◌++◌}
use lib.ListN.{length, drop, length-append, length-drop}
use lib.Seq.{drop_at}
use lib.Dec.{ltb}
use borrow.Author.Tests.{ltb-true, ltb-false, lt-ltb, le-ltb}
use Rattle.verdict.specs.Answers.{answer_number}
use Rattle.verdict.specs.declared.Fault.{Fault}
use Rattle.verdict.specs.declared.Reason.TheVariants.{Question, Steps, Room}
use Rattle.route_graph.specs.declared.Object.{Object}
use Rattle.route_graph.specs.Links.{Joined}
use Rattle.route_walks.specs.declared.Tally.{Tally}
use Rattle.route_walks.specs.Legal.{Walk, Route}
use Rattle.route_walks.specs.Walks.{all_walks, all_routes, words_of}
use Rattle.route_walks.specs.Lent.{word_size, room_of, octets_of}
use Rattle.route_walks.specs.All.{Exactly, Number}
use Rattle.route_walks.proofs.Order.{walks_counted, all_routes_lem}
use Rattle.route_walks.proofs.Count.{one_number, one_length}
use Rattle.route_walks.proofs.Lent.{octets_length, read_back}
use Rattle.std.specs.Prelude.{Ok, Err}
use Rattle.route_lister.specs.Answered.{RoutesAnswer, limit_of, in_range, tally_of, refused_for, judged, answer_at, answer_of, leaves, left_of, routes_answer}
use Rattle.route_lister.specs.Listing.{Within, Listing}
use Rattle.route_lister.proofs.Whole.{in_range_iff}

-- what an answer says of the three tests
pub record Answered (range steps room : Bool) (t u : Tally) : Type 0 where
  pub in_range_lem : range ≡ true
  pub few : steps ≡ false
  pub fits : room ≡ false
  pub same : t ≡ u

listed_by : (range steps room : Bool) (t u : Tally) → judged range steps room t ≡ Ok u → Answered range steps room t u
unfolding judged
listed_by false steps room t u e = absurd (never e)
  where
    never : refused_for Question ≡ Ok u → ⊥
    never q = let z : ◌≡◌ {A = ℕ} 13 0 = ap answer_number (ap routes_answer q) in omega arith
listed_by true true room t u e = absurd (never e)
  where
    never : refused_for Steps ≡ Ok u → ⊥
    never q = let z : ◌≡◌ {A = ℕ} 14 0 = ap answer_number (ap routes_answer q) in omega arith
listed_by true false true t u e = absurd (never e)
  where
    never : refused_for Room ≡ Ok u → ⊥
    never q = let z : ◌≡◌ {A = ℕ} 15 0 = ap answer_number (ap routes_answer q) in omega arith
listed_by true false false t u e = record { in_range_lem = refl; few = refl; fits = refl; same = cc }

-- what each refusal says of them
question_by : (range steps room : Bool) (t : Tally) → judged range steps room t ≡ refused_for Question → range ≡ false
unfolding judged
question_by false steps room t e = refl
question_by true true room t e = let z : ◌≡◌ {A = ℕ} 14 13 = ap answer_number (ap routes_answer e) in absurd (omega arith)
question_by true false true t e = let z : ◌≡◌ {A = ℕ} 15 13 = ap answer_number (ap routes_answer e) in absurd (omega arith)
question_by true false false t e = let z : ◌≡◌ {A = ℕ} 0 13 = ap answer_number (ap routes_answer e) in absurd (omega arith)

steps_by : (range steps room : Bool) (t : Tally) → judged range steps room t ≡ refused_for Steps → (range ≡ true) × (steps ≡ true)
unfolding judged
steps_by false steps room t e = let z : ◌≡◌ {A = ℕ} 13 14 = ap answer_number (ap routes_answer e) in absurd (omega arith)
steps_by true true room t e = (refl, refl)
steps_by true false true t e = let z : ◌≡◌ {A = ℕ} 15 14 = ap answer_number (ap routes_answer e) in absurd (omega arith)
steps_by true false false t e = let z : ◌≡◌ {A = ℕ} 0 14 = ap answer_number (ap routes_answer e) in absurd (omega arith)

room_by : (range steps room : Bool) (t : Tally) → judged range steps room t ≡ refused_for Room → (range ≡ true) × (steps ≡ false) × (room ≡ true)
unfolding judged
room_by false steps room t e = let z : ◌≡◌ {A = ℕ} 13 15 = ap answer_number (ap routes_answer e) in absurd (omega arith)
room_by true true room t e = let z : ◌≡◌ {A = ℕ} 14 15 = ap answer_number (ap routes_answer e) in absurd (omega arith)
room_by true false true t e = (refl, refl, refl)
room_by true false false t e = let z : ◌≡◌ {A = ℕ} 0 15 = ap answer_number (ap routes_answer e) in absurd (omega arith)

kept_by : (r : RoutesAnswer) (u : Fault) (ws out : List ℕ) → r ≡ Err u → leaves r ws out ≡ out
unfolding leaves
kept_by r u ws out e = rw e refl

-- THEOREM: a refusal leaves every byte lent as it was
pub kept : (v : ℕ → Object) (asked : Bool) (start limit budget : ℕ) (out : List ℕ) (u : Fault) → answer_of v asked start limit budget (room_of out) ≡ Err u → left_of v asked start limit budget out ≡ out
kept v asked start limit budget out u e = kept_by (answer_of v asked start limit budget (room_of out)) u (words_of (all_routes v start (limit_of limit))) out e

-- the bytes of some words that find room, with what stands after them
front_whole : (ws out : List ℕ) → length ws ≤ room_of out → length (octets_of ws ++ drop (word_size * length ws) out) ≡ length out
front_whole ws out h = omega (arith, length-append (octets_of ws) (drop (word_size * length ws) out), length-drop (word_size * length ws) out, octets_length ws)

not_in_range : (asked : Bool) (limit budget : ℕ) → in_range asked limit budget ≡ false → ¬ Within asked limit budget
not_in_range asked limit budget e w = true≢false (sym ((in_range_iff asked limit budget).1 w) ∙ e)

out_of_range : (asked : Bool) (limit budget : ℕ) → ¬ Within asked limit budget → in_range asked limit budget ≡ false
out_of_range asked limit budget n = go (in_range asked limit budget) refl
  where
    go : (x : Bool) → in_range asked limit budget ≡ x → x ≡ false
    go true e = absurd (n ((in_range_iff asked limit budget).0 e))
    go false e = refl

-- THEOREM: 13 exactly where the question is not in range
pub question_iff : (v : ℕ → Object) (asked : Bool) (start limit budget room : ℕ) → (answer_of v asked start limit budget room ≡ refused_for Question) ↔ (¬ Within asked (limit_of limit) budget)
unfolding answer_at judged
question_iff v asked start limit budget room = (
  (λ e. not_in_range asked (limit_of limit) budget (question_by (in_range asked (limit_of limit) budget) _ _ _ e)),
  (λ n. rw (out_of_range asked (limit_of limit) budget n, answer_at, judged) refl),
)

module _ (v : ℕ → Object) (Good : ℕ → Type 0) (joined : Joined v Good) (start : ℕ) (good : Good start) where
  listing_at : (asked : Bool) (limit budget : ℕ) (out : List ℕ) (t : Tally) → answer_at v asked start limit budget (room_of out) ≡ Ok t
      → Listing v start limit budget t out (leaves (answer_at v asked start limit budget (room_of out)) (words_of (all_routes v start limit)) out)
  unfolding answer_at leaves tally_of
  listing_at asked limit budget out t e =
      let ws = words_of (all_routes v start limit) in
      let h = listed_by (in_range asked limit budget) (ltb budget (length (all_walks v start limit))) (ltb (room_of out) (length ws)) (tally_of v start limit) t e in
      let w : length (all_walks v start limit) ≡ t.walks = ap (λ (u : Tally). u.walks) h.same in
      let r : length (all_routes v start limit) ≡ t.routes = ap (λ (u : Tally). u.routes) h.same in
      let n : length (words_of (all_routes v start limit)) ≡ t.words = ap (λ (u : Tally). u.words) h.same in
      let few = ltb-false budget (length (all_walks v start limit)) h.few in
      let fits = ltb-false (room_of out) (length (words_of (all_routes v start limit))) h.fits in
      record {
        routes = all_routes v start limit;
        all = all_routes_lem v Good joined start limit good;
        routes_are = sym r;
        words_are = sym n;
        walks_are = subst (Number (Walk v start limit)) w (walks_counted v Good joined start limit good);
        within = omega arith;
        room = omega arith;
        held = λ i q. rw e (read_back ws (drop (word_size * length ws) out) i (omega arith));
        whole = rw e (front_whole ws out fits);
        untouched = rw (e, ← n) (drop_at (octets_of ws) (drop (word_size * length ws) out) (word_size * length ws) (octets_length ws));
      }

  -- THEOREM: an answer is a listing
  pub listing : (asked : Bool) (limit budget : ℕ) (out : List ℕ) (t : Tally) → answer_of v asked start limit budget (room_of out) ≡ Ok t
      → Listing v start (limit_of limit) budget t out (left_of v asked start limit budget out)
  listing asked limit budget out t e = listing_at asked (limit_of limit) budget out t e

  module _ (asked : Bool) (limit budget room n : ℕ) (number : Number (Walk v start (limit_of limit)) n) where
    same_walks : length (all_walks v start (limit_of limit)) ≡ n
    same_walks = one_number (Walk v start (limit_of limit)) (length (all_walks v start (limit_of limit))) n (walks_counted v Good joined start (limit_of limit) good) number

    -- THEOREM: 14 exactly where the question is in range and the partial walks outnumber the budget
    pub steps_iff : (answer_of v asked start limit budget room ≡ refused_for Steps) ↔ (Within asked (limit_of limit) budget × (budget < n))
    unfolding answer_at judged tally_of
    steps_iff =
        let all = length (all_walks v start (limit_of limit)) in
        let same : all ≡ n = same_walks in
        let range = in_range_iff asked (limit_of limit) budget in (
          (λ e. let s = steps_by (in_range asked (limit_of limit) budget) (ltb budget all) _ _ e in (range.0 s.0, subst (λ (k : ℕ). budget < k) same (ltb-true budget all s.1))),
          (λ p. let q : budget < all = omega arith in rw (range.1 p.0, lt-ltb budget all q, answer_at, judged) refl),
        )

    -- THEOREM: 15 exactly where the question is in range, the partial walks are at most the budget, and the words of all routes are more
    -- than find room
    pub no_room_iff : (routes : List (List ℕ)) → Exactly (Route v start (limit_of limit)) routes
        → (answer_of v asked start limit budget room ≡ refused_for Room) ↔ (Within asked (limit_of limit) budget × (n ≤ budget) × (room < length (words_of routes)))
    unfolding answer_at judged tally_of
    no_room_iff routes exactly =
        let all = length (all_walks v start (limit_of limit)) in
        let words = length (words_of (all_routes v start (limit_of limit))) in
        let same : all ≡ n = same_walks in
        let alike : words ≡ length (words_of routes) = one_length (Route v start (limit_of limit)) (all_routes v start (limit_of limit)) routes (all_routes_lem v Good joined start (limit_of limit) good).exactly exactly in
        let range = in_range_iff asked (limit_of limit) budget in (
          (λ e.
              let s = room_by (in_range asked (limit_of limit) budget) (ltb budget all) (ltb room words) _ e in
              let few = ltb-false budget all s.1 in
              let short = ltb-true room words s.2 in
              (range.0 s.0, omega arith, omega arith)),
          (λ p.
              let few : all ≤ budget = omega arith in
              let short : room < words = omega arith in
              rw (range.1 p.0, le-ltb budget all few, lt-ltb room words short, answer_at, judged) refl),
        )
