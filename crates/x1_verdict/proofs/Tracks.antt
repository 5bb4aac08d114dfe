-- The points of a track, of which the first that does not obey is looked for: a point that obeys is passed over. Where one is found, its
-- facts are the verdict on them all, and where none is, every test passes. So a track obeys exactly where its number does and no point is
-- found.
use Prim.Native.Nat.{ℕ, ◌+◌, ◌≤◌, ◌<◌}
use mathlib.Core.Path.{◌≡◌, refl, sym, ap, ◌∙◌}
use mathlib.Core.Bool.{Bool, true, false, ◌&&◌}
use mathlib.Core.List.{List, flat_map}
use mathlib.Core.Logic.{⊎_elim}
use native.Mathlib.Omega.{arith}
use lib.Dec.{leb}
use borrow.Author.Tests.{leb-true, leb-false}
use Rattle.verdict.specs.Verdicts.{Judged}
use Rattle.std.specs.Prelude.{Ok}
use Rattle.verdict.specs.Facts.{Fact, all_tests, first_fault}
use Rattle.verdict.specs.Walk.{starts_from}
use Rattle.std.specs.Prelude.{is_ok}
use Rattle.verdict.proofs.Facts.{tests_then, tests_judged}
use Rattle.verdict.proofs.Orders.{le-or-lt}
use Rattle.verdict.proofs.Checks.{passes_over, fails_here, first_stop}
use Rattle.x1_layout.specs.Layout.{first_of, last_of}
use Rattle.x1_verdict.specs.Agreement.{number_agrees, point_agrees, points_of, track_agrees}
use Rattle.x1_verdict.specs.inner.FirstOff.{points_from, LaterOff, FirstOff}

-- a record that obeys is passed over, and past the end there is none
pub record_over :
    (size end : ℕ) (facts : ℕ → List Fact) → 0 < size → (p : ℕ) → all_tests (facts p) ≡ true
    → first_fault (flat_map facts (starts_from (λ _. size) end (p + size))) ≡ first_fault (flat_map facts (starts_from (λ _. size) end p))
record_over size end facts pos p t =
    ⊎_elim
    (λ (h : end ≤ p). first_stop (λ _. size) end facts (p + size) (omega arith) ∙ sym (first_stop (λ _. size) end facts p h))
    (λ (h : p < end). passes_over (λ _. size) end facts (λ x. pos) p (all_tests (facts p)) h refl (p + size) t refl)
    (le-or-lt end p)

module _ (f : List ℕ) (size e : ℕ) (pos : 0 < size) where
  -- the points between the first and the last one, from p on: one turn
  pub later_over : (p : ℕ) (t : Bool) → t ≡ all_tests (point_agrees f size e p) → t ≡ true → first_fault (points_from f size e (p + size)) ≡ first_fault (points_from f size e p)
  later_over p t i n = record_over size (last_of f e + size) (point_agrees f size e) pos p (sym i ∙ n)

  -- the four ways out: at the first point, at a later one, at the last one, and past them all
  module _ (first : ℕ) (i : first ≡ first_of f e) (t : Bool) (j : t ≡ all_tests (point_agrees f size e first)) where
    pub off_first : t ≡ false → FirstOff f size e first
    unfolding points_of
    off_first n = record { before = ap (λ (p : ℕ). first_fault (points_from f size e p)) i; here = λ h. sym j ∙ n }

    module _ (n : t ≡ true) (p : ℕ) (later : LaterOff f size e p) where
      since_first : first_fault (points_from f size e p) ≡ first_fault (flat_map (point_agrees f size e) (points_of f size e))
      unfolding points_of
      since_first = later.before ∙ later_over (first_of f e) t (j ∙ ap (λ (p : ℕ). all_tests (point_agrees f size e p)) i) n

      pub off_later : p < last_of f e → FirstOff f size e p
      off_later h = record { before = since_first; here = λ _. later.here h }

      module _ (u : Bool) (k : u ≡ all_tests (point_agrees f size e p)) where
        pub off_last : u ≡ false → FirstOff f size e p
        off_last m = record { before = since_first; here = λ _. sym k ∙ m }

        pub off_none : last_of f e ≤ p → u ≡ true → FirstOff f size e (p + size)
        off_none h m = record { before = later_over p u k m ∙ since_first; here = λ g. absurd (omega arith) }

module _ (f : List ℕ) (size e p : ℕ) (pos : 0 < size) (off : FirstOff f size e p) where
  pub points_end : last_of f e + size ≤ p → Ok tt ≡ first_fault (flat_map (point_agrees f size e) (points_of f size e))
  points_end h = sym (first_stop (λ _. size) (last_of f e + size) (point_agrees f size e) p h) ∙ off.before

  pub points_off : (r : Judged) → p < last_of f e + size → r ≡ first_fault (point_agrees f size e p) → r ≡ first_fault (flat_map (point_agrees f size e) (points_of f size e))
  points_off r h q =
      fails_here (λ _. size) (last_of f e + size) (point_agrees f size e) (λ x. pos) p (all_tests (point_agrees f size e p)) h refl r (off.here h) q
      ∙ off.before

  points_tested : leb (last_of f e + size) p ≡ all_tests (flat_map (point_agrees f size e) (points_of f size e))
  points_tested = by_test (leb (last_of f e + size) p) refl
    where
      by_test : (t : Bool) → leb (last_of f e + size) p ≡ t → t ≡ all_tests (flat_map (point_agrees f size e) (points_of f size e))
      by_test true h = tests_judged (Ok tt) true (flat_map (point_agrees f size e) (points_of f size e)) (points_end (leb-true (last_of f e + size) p h)) refl
      by_test false h =
          let l = leb-false (last_of f e + size) p h in
          let u = first_fault (point_agrees f size e p) in
          let refused : is_ok u ≡ false = tests_judged u (is_ok u) (point_agrees f size e p) refl refl ∙ off.here l in
          tests_judged u false (flat_map (point_agrees f size e) (points_of f size e)) (points_off u l refl) (sym refused)

  pub track_tested : (n t : Bool) → n ≡ all_tests (number_agrees f e) → t ≡ leb (last_of f e + size) p → (n && t) ≡ all_tests (track_agrees f size e)
  unfolding track_agrees
  track_tested n t i j = tests_then n t (number_agrees f e) (flat_map (point_agrees f size e) (points_of f size e)) i (j ∙ points_tested)
