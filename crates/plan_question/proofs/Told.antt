-- What it says of a question that routes are listed: the numbers are those of all routes, and their words find room and stand in front of the
-- bytes lent.
use Prim.Native.Nat.{ℕ, ◌*◌, ◌≤◌}
use native.Mathlib.Omega.{arith}
use mathlib.Core.Path.{◌≡◌, refl, ap, ◌∙◌}
use mathlib.Core.Bool.{Bool, true, false}
use mathlib.Core.List.{List, ◌++◌}
use lib.ListN.{length, drop}
use lib.Dec.{ltb}
use borrow.Author.Tests.{ltb-false}
use Rattle.verdict.specs.declared.Fault.{Fault}
use Rattle.std.specs.Prelude.{Ok, Err}
use Rattle.verdict.proofs.Questions.{no_fault, accepted_by}
use Rattle.x2_layout.specs.Layout.{layout_of}
use Rattle.x2_verdict.specs.Facts.{verdict_of}
use Rattle.route_graph.specs.Objects.{object_at, boundary_starts}
use Rattle.route_walks.specs.declared.Tally.{Tally}
use Rattle.route_walks.specs.Walks.{all_walks, words_of}
use Rattle.route_walks.specs.Lent.{word_size, room_of, octets_of}
use Rattle.std.specs.Prelude.{Ok, Err}
use Rattle.route_lister.specs.Answered.{limit_of, in_range, tally_of, judged, answer_at, answer_in, leaves}
use Rattle.route_question.specs.Routes.{routes_asked, left_asked}
use Rattle.plan_question.specs.Compared.{routes_from}

never : (u : Fault) (t : Tally) → Err u ≡ Ok t → ⊥
never u t e = let z : ◌≡◌ {A = ℕ} 0 1 = cc in omega arith

judged_by : (range steps room : Bool) (t u : Tally) → judged range steps room t ≡ Ok u → (range ≡ true) × (room ≡ false) × (u ≡ t)
unfolding judged
judged_by false steps room t u e = absurd (never _ _ e)
judged_by true true room t u e = absurd (never _ _ e)
judged_by true false true t u e = absurd (never _ _ e)
judged_by true false false t u e = (refl, refl, cc)

-- the routes are listed with these numbers
pub record Told (f : List ℕ) (start limit budget room : ℕ) (t : Tally) : Type 0 where
  pub accepted : verdict_of f ≡ Ok tt
  pub answer : answer_in f (layout_of f) start limit budget room ≡ Ok t
  pub in_range_lem : in_range (boundary_starts (layout_of f) start) (limit_of limit) budget ≡ true
  pub routes : t.routes ≡ length (routes_from f start limit)
  pub words : t.words ≡ length (words_of (routes_from f start limit))
  pub fits : length (words_of (routes_from f start limit)) ≤ room

module _ (f : List ℕ) (start limit budget : ℕ) (t : Tally) where
  pub told : (room : ℕ) → routes_asked f start limit budget room ≡ Ok t → Told f start limit budget room t
  unfolding routes_asked answer_at tally_of
  told room e =
      let a = accepted_by Err (verdict_of f) (answer_in f (layout_of f) start limit budget room) (Ok t) (λ u. never u t) e in
      let v = object_at f (layout_of f) in
      let j = judged_by (in_range (boundary_starts (layout_of f) start) (limit_of limit) budget) (ltb budget (length (all_walks v start (limit_of limit)))) (ltb room (length (words_of (routes_from f start limit)))) (tally_of v start (limit_of limit)) t a.1 in
      record {
        accepted = a.0;
        answer = a.1;
        in_range_lem = j.0;
        routes = ap (λ (u : Tally). u.routes) j.2;
        words = ap (λ (u : Tally). u.words) j.2;
        fits = ltb-false room (length (words_of (routes_from f start limit))) j.1;
      }

  -- the bytes lent
  pub words_front : (out : List ℕ) → routes_asked f start limit budget (room_of out) ≡ Ok t
      → left_asked f start limit budget out ≡ octets_of (words_of (routes_from f start limit)) ++ drop (word_size * length (words_of (routes_from f start limit))) out
  unfolding left_asked leaves
  words_front out e =
      let a = told (room_of out) e in
      no_fault (λ (u : Fault). out) (verdict_of f) _ a.accepted ∙ rw a.answer refl
