-- The ways out of `counted`, of `answered` and of `compare`.
use Prim.Native.Nat.{ℕ, ◌≤◌}
use native.Mathlib.Omega.{arith}
use mathlib.Core.Path.{◌≡◌, refl, sym, ap, ◌∙◌}
use mathlib.Core.List.{List, ◌++◌}
use lib.ListN.{length, drop}
use Rattle.verdict.specs.declared.Fault.{Fault}
use Rattle.std.specs.Prelude.{Result, Ok, Err}
use Rattle.route_walks.specs.declared.Tally.{Tally}
use Rattle.route_walks.specs.Walks.{words_of}
use Rattle.route_walks.specs.Lent.{room_of}
use Rattle.route_lister.specs.Answered.{RoutesAnswer}
use Rattle.std.specs.Prelude.{Ok, Err}
use Rattle.route_question.specs.Routes.{routes_asked, left_asked}
use Rattle.plan_routes.specs.Routes.{routes_in, apart}
use Rattle.plan_routes.proofs.Listed.{routes_back}
use Rattle.plan_question.specs.declared.Compared.{Compared as Counts}
use Rattle.plan_question.specs.inner.Words.{words_in}
use Rattle.plan_question.specs.Compared.{routes_from, counts_of, compared_by, compared_in, leaves_by, left_compared_in}
use Rattle.plan_question.proofs.Reading.{words_back}
use Rattle.plan_question.proofs.Told.{Told, told, words_front}

-- what is counted of the words ws is counted of the words vs that they are
pub counts_are : (plan ws vs : List ℕ) (start : ℕ) (t : Tally) (missing extra : ℕ) → ws ≡ vs
    → missing ≡ apart (routes_in plan) start (routes_in ws) → extra ≡ apart (routes_in ws) start (routes_in plan)
    → ◌≡◌ {A = Counts} (record { words = t.words; routes = t.routes; missing = missing; extra = extra }) (counts_of (routes_in plan) start (routes_in vs) t)
counts_are plan ws vs start t missing extra e m x = rw (m, x, e) refl

-- a is what the question routes answers
module _ (f lent : List ℕ) (start limit budget : ℕ) (a : RoutesAnswer) (p : a ≡ routes_asked f start limit budget (room_of lent)) where
  module _ (t : Tally) (e : a ≡ Ok t) where
    asked : routes_asked f start limit budget (room_of lent) ≡ Ok t
    asked = sym p ∙ e

    known : Told f start limit budget (room_of lent) t
    known = told f start limit budget t (room_of lent) asked

    pub fits : (list : List ℕ) → room_of lent ≤ length list → t.words ≤ length list
    fits list h = omega (arith, known)

    module _ (left : List ℕ) (l : left ≡ left_asked f start limit budget lent) where
      -- the words of all routes are read from the bytes lent
      words_are : words_in t.words left ≡ words_of (routes_from f start limit)
      words_are = rw (known.words, l, words_front f start limit budget t lent asked) (words_back (words_of (routes_from f start limit)) _)

      pub compares : (plan : List ℕ) (r : Counts) → r ≡ counts_of (routes_in plan) start (routes_in (words_in t.words left)) t → Ok r ≡ compared_in f start limit budget plan (room_of lent)
      unfolding compared_by
      compares plan r q =
          ap Ok (q ∙ ap (λ (rs : List (List ℕ)). counts_of (routes_in plan) start rs t) (ap routes_in words_are ∙ routes_back (routes_from f start limit)))
          ∙ sym (ap (compared_by (routes_in plan) start (routes_from f start limit)) asked)

      pub compares_words : (list after : List ℕ) → after ≡ words_in t.words left ++ drop t.words list → after ≡ left_compared_in f start limit budget list (room_of lent)
      unfolding leaves_by
      compares_words list after q = rw (q, words_are, known.words, asked) refl

  module _ (u : Fault) (e : a ≡ Err u) where
    pub refuses : (plan : List ℕ) → Err u ≡ compared_in f start limit budget plan (room_of lent)
    unfolding compared_by
    refuses plan = sym (ap (compared_by (routes_in plan) start (routes_from f start limit)) (sym p ∙ e))

    pub refuses_words : (list : List ℕ) → list ≡ left_compared_in f start limit budget list (room_of lent)
    unfolding leaves_by
    refuses_words list = sym (ap (leaves_by (words_of (routes_from f start limit)) list) (sym p ∙ e))

-- the ways out of `compare`: n words find room in the bytes lent, which is m
module _ (f : List ℕ) (start limit budget n m : ℕ) (e : n ≡ m) where
  pub answer_with : (plan : List ℕ) (r : Result Counts Fault) → r ≡ compared_in f start limit budget plan n → r ≡ compared_in f start limit budget plan m
  answer_with plan r q = q ∙ ap (compared_in f start limit budget plan) e

  pub words_with : (list after : List ℕ) → after ≡ left_compared_in f start limit budget list n → after ≡ left_compared_in f start limit budget list m
  words_with list after q = q ∙ ap (left_compared_in f start limit budget list) e
