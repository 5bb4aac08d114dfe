-- What ticket 8 of document 02 changed, and what not: a question that states its limit is answered as ever; 64 is answered as 0 was, and 0 as
-- 160 is.
use Prim.Native.Nat.{ℕ}
use mathlib.Core.Path.{◌≡◌, refl, ap}
use mathlib.Core.Bool.{Bool, true, false, cond}
use mathlib.Core.List.{List}
use lib.Dec.{eqb}
use borrow.Author.Tests.{eqb-true}
use Rattle.verdict.specs.declared.Fault.{Fault}
use Rattle.verdict.specs.Answers.{after_verdict}
use Rattle.x2_layout.specs.Layout.{layout_of}
use Rattle.x2_verdict.specs.Facts.{verdict_of}
use Rattle.route_graph.specs.Objects.{object_at, boundary_starts}
use Rattle.route_walks.specs.Walks.{all_routes, words_of}
use Rattle.route_walks.specs.Lent.{room_of}
use Rattle.std.specs.Prelude.{Err}
use Rattle.route_lister.specs.Answered.{RoutesAnswer, default_limit, limit_of, answer_at, leaves}
use Rattle.route_question.specs.Routes.{routes_asked, left_asked}
use Rattle.route_theorems.specs.Base.{default_was, limit_was, routes_was, left_was}

module _ (f : List ℕ) (start : ℕ) where
  -- ---- answer and bytes left, by the limit that is meant

  abbrev answered_at : ℕ → ℕ → ℕ → RoutesAnswer
  answered_at budget room meant = answer_at (object_at f (layout_of f)) (boundary_starts (layout_of f) start) start meant budget room

  abbrev left_at : ℕ → List ℕ → ℕ → List ℕ
  left_at budget out meant = leaves (answered_at budget (room_of out) meant) (words_of (all_routes (object_at f (layout_of f)) start meant)) out

  module _ (limit other : ℕ) (budget : ℕ) (same : limit_of limit ≡ limit_was other) where
    same_answer : (room : ℕ) → routes_asked f start limit budget room ≡ routes_was f start other budget room
    unfolding routes_asked routes_was
    same_answer room = ap (λ (k : ℕ). after_verdict Err (verdict_of f) (answered_at budget room k)) same

    same_left : (out : List ℕ) → left_asked f start limit budget out ≡ left_was f start other budget out
    unfolding left_asked left_was
    same_left out = ap (λ (k : ℕ). after_verdict (λ (t : Fault). out) (verdict_of f) (left_at budget out k)) same

  -- THEOREM (02, ticket 8): with 64 stated the answer and the bytes left are those that 0 gave before
  pub stated_is : (budget room : ℕ) → routes_asked f start 64 budget room ≡ routes_was f start 0 budget room
  unfolding limit_of limit_was
  stated_is budget room = same_answer 64 0 budget refl room

  pub stated_left : (budget : ℕ) (out : List ℕ) → left_asked f start 64 budget out ≡ left_was f start 0 budget out
  unfolding limit_of limit_was
  stated_left budget out = same_left 64 0 budget refl out

  -- a limit that is stated means what it meant
  stated_limit : (limit : ℕ) → (limit ≡ 0 → ⊥) → limit_of limit ≡ limit_was limit
  unfolding limit_of limit_was
  stated_limit limit n = by_test (eqb limit 0) refl
    where
      by_test : (t : Bool) → eqb limit 0 ≡ t → cond t default_limit limit ≡ cond t default_was limit
      by_test true e = absurd (n (eqb-true limit 0 e))
      by_test false e = refl

  -- THEOREM (02, ticket 8): with any limit stated they are those that they were
  pub others_are : (limit : ℕ) → (limit ≡ 0 → ⊥) → (budget room : ℕ) → routes_asked f start limit budget room ≡ routes_was f start limit budget room
  others_are limit n budget room = same_answer limit limit budget (stated_limit limit n) room

  pub others_left : (limit : ℕ) → (limit ≡ 0 → ⊥) → (budget : ℕ) (out : List ℕ) → left_asked f start limit budget out ≡ left_was f start limit budget out
  others_left limit n budget out = same_left limit limit budget (stated_limit limit n) out

  -- THEOREM (02, ticket 8): 0 is a way to say 160
  pub default_is : (budget room : ℕ) → routes_asked f start 0 budget room ≡ routes_asked f start 160 budget room
  unfolding routes_asked limit_of
  default_is budget room = refl

  pub default_left : (budget : ℕ) (out : List ℕ) → left_asked f start 0 budget out ≡ left_asked f start 160 budget out
  unfolding left_asked limit_of
  default_left budget out = refl
