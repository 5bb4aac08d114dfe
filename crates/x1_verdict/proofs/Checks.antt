-- How the verdict of a check comes from the verdicts of its parts, one law for each way out of the code.
use Prim.Native.Nat.{ℕ, ◌+◌, ◌≤◌, ◌<◌}
use mathlib.Core.Path.{◌≡◌, ◌∙◌, sym, ap}
use mathlib.Core.Bool.{Bool, true, cond, ◌&&◌, and-true}
use mathlib.Core.List.{List, [], ◌++◌}
use lib.Dec.{ltb, eqb}
use native.Mathlib.Omega.{arith}
use borrow.Author.Tests.{le-ltb, ne_eqb}
use Rattle.verdict.specs.Facts.{all_tests}
use Rattle.verdict.proofs.Facts.{tests_then}
use Rattle.x1_layout.specs.Layout.{first_of, last_of}
use Rattle.x1_verdict.specs.Agreement.{opens, rises, stays, closes, point_agrees}

-- The tests of a point, from those of its parts.
module _ (f : List ℕ) (size : ℕ) (x y z : Bool) where
  pub point_tested : (e first last p : ℕ) → first ≡ first_of f e → last ≡ last_of f e → x ≡ all_tests (cond (ltb p (first + size)) (opens f size p) (rises f size p)) → y ≡ all_tests (stays f e p)
      → z ≡ all_tests (cond (eqb p last) (closes f e p) []) → (x && (y && z)) ≡ all_tests (point_agrees f size e p)
  point_tested e first last p i j a b d =
      tests_then x (y && z) (cond (ltb p (first_of f e + size)) (opens f size p) (rises f size p)) (stays f e p ++ cond (eqb p (last_of f e)) (closes f e p) [])
      (a ∙ ap (λ (n : ℕ). all_tests (cond (ltb p (n + size)) (opens f size p) (rises f size p))) i)
      (tests_then y z (stays f e p) (cond (eqb p (last_of f e)) (closes f e p) []) b (d ∙ ap (λ (n : ℕ). all_tests (cond (eqb p n) (closes f e p) [])) j))

-- The tests of a point that is neither the first nor the last of its track.
module _ (f : List ℕ) (size : ℕ) (x y : Bool) where
  pub later_tested : (e first last p : ℕ) → first ≡ first_of f e → last ≡ last_of f e → first + size ≤ p → p < last → x ≡ all_tests (rises f size p) → y ≡ all_tests (stays f e p)
      → (x && y) ≡ all_tests (point_agrees f size e p)
  later_tested e first last p i j h g a b =
      let n : p ≡ last → ⊥ = λ q. omega arith in
      ap (λ (t : Bool). x && t) (sym (and-true y))
      ∙ point_tested f size x y true e first last p i j (rw (le-ltb p (first + size) h) a) b (rw (ne_eqb p last n))
