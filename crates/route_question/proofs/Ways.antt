-- The ways out of the question 'routes'.
use Prim.Native.Nat.{ℕ}
use mathlib.Core.Path.{◌≡◌, ◌∙◌, sym, ap}
use mathlib.Core.List.{List}
use Rattle.verdict.specs.declared.Fault.{Fault}
use Rattle.verdict.specs.Verdicts.{Verdict}
use Rattle.std.specs.Prelude.{Ok, Err}
use Rattle.verdict.proofs.Questions.{fault_is, no_fault}
use Rattle.x2_layout.specs.declared.Layout.{Layout}
use Rattle.x2_layout.specs.Layout.{layout_of}
use Rattle.x2_verdict.specs.Facts.{verdict_of}
use Rattle.std.specs.Prelude.{Err}
use Rattle.route_lister.specs.Answered.{RoutesAnswer, answer_in, left_in}
use Rattle.route_question.specs.Routes.{routes_asked, left_asked}

module _ (f : List ℕ) (start limit budget : ℕ) (v : Verdict) (p : v ≡ verdict_of f) where
  pub fault_keeps : (t : Fault) → v ≡ Err t → (out : List ℕ) → out ≡ left_asked f start limit budget out
  unfolding left_asked
  fault_keeps t e out = sym (fault_is (λ (u : Fault). out) (verdict_of f) t _ (sym p ∙ e))

  module _ (e : v ≡ Ok tt) (l : Layout) (i : l ≡ layout_of f) where
    pub answered : (room : ℕ) (r : RoutesAnswer) → r ≡ answer_in f l start limit budget room → r ≡ routes_asked f start limit budget room
    unfolding routes_asked
    answered room r q =
        q
        ∙ ap (λ (k : Layout). answer_in f k start limit budget room) i
        ∙ sym (no_fault Err (verdict_of f) _ (sym p ∙ e))

    pub written : (out after : List ℕ) → after ≡ left_in f l start limit budget out → after ≡ left_asked f start limit budget out
    unfolding left_asked
    written out after q =
        q
        ∙ ap (λ (k : Layout). left_in f k start limit budget out) i
        ∙ sym (no_fault (λ (u : Fault). out) (verdict_of f) _ (sym p ∙ e))
