-- Numbers that strictly rise from each to the next, n of them: they rise from each to every later one, and no two are equal.
use Prim.Native.Nat.{ℕ, suc, zero, ◌≤◌, ◌<◌}
use mathlib.Core.Path.{◌≡◌, ap}
use mathlib.Core.Logic.{⊎_elim}
use native.Mathlib.Omega.{arith}
use Rattle.verdict.proofs.Orders.{le-or-lt}

module _ (g : ℕ → ℕ) (n : ℕ) (step : (j : ℕ) → suc j < n → g j < g (suc j)) where
  pub rise : (j i : ℕ) → i < j → j < n → g i < g j
  rise zero i h l = absurd (omega arith)
  rise (suc j) i h l =
      let s = step j l in
      ⊎_elim
      (λ (d : j ≤ i). let q : i ≡ j = omega arith in let e = ap g q in omega arith)
      (λ (d : i < j). let r = rise j i d (omega arith) in omega arith)
      (le-or-lt j i)

  pub rise_order : (j i : ℕ) → i ≤ j → j < n → g i ≤ g j
  rise_order j i h l =
      ⊎_elim
      (λ (d : j ≤ i). let q : i ≡ j = omega arith in let e = ap g q in omega arith)
      (λ (d : i < j). let r = rise j i d l in omega arith)
      (le-or-lt j i)

  pub rise_one : (i j : ℕ) → i < n → j < n → g i ≡ g j → i ≡ j
  rise_one i j h k e =
      ⊎_elim
      (λ (d : i ≤ j). ⊎_elim (λ (r : j ≤ i). omega arith) (λ (r : i < j). let s = rise j i r k in absurd (omega arith)) (le-or-lt j i))
      (λ (d : j < i). let s = rise i j d h in absurd (omega arith))
      (le-or-lt i j)
