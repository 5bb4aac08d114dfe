-- Small laws that the theorems of Tables and Obeys rest on: what a field's values are, as a range and in 01's words, and facts of each index.
use Prim.Native.Nat.{ℕ, ◌+◌, ◌/◌, ◌%◌, ◌≤◌, ◌<◌}
use mathlib.Core.Path.{◌≡◌}
use mathlib.Core.Logic.{inl, inr, ⊎_elim, ◌↔◌}
use mathlib.Core.List.{List, flat_map}
use native.Mathlib.Omega.{arith}
use Rattle.verdict.specs.Facts.{Fact, AllHold}
use Rattle.verdict.proofs.Facts.{all_each}
use Rattle.verdict.proofs.Orders.{le-or-lt}
use Rattle.rules.specs.Rules.{Between}
use Rattle.x2_layout.specs.Facts.{indexes}
use Rattle.x2_layout.proofs.Walks.{index_iff}
use Rattle.x2_obeys.specs.Fields.{OneOfTwo}

-- between a number and the next
pub two_iff : (low x : ℕ) → Between low (low + 1) x ↔ OneOfTwo low (low + 1) x
two_iff low x = (
  λ h. ⊎_elim (λ (l : x ≤ low). inl (omega arith)) (λ (l : low < x). inr (omega arith)) (le-or-lt x low),
  λ h. ⊎_elim (λ (e : x ≡ low). (omega arith, omega arith)) (λ (e : x ≡ low + 1). (omega arith, omega arith)) h,
)

-- the same, the greater named first
pub two_down_iff : (low x : ℕ) → Between low (low + 1) x ↔ OneOfTwo (low + 1) low x
two_down_iff low x =
    let up = two_iff low x in
    (λ h. ⊎_elim inr inl (up.0 h), λ h. up.1 (⊎_elim inr inl h))

-- a range from 0 on
pub most_iff : (n x : ℕ) → Between 0 n x ↔ (x ≤ n)
most_iff n x = (λ h. h.1, λ h. (omega arith, h))

-- the same, up to a number that is not in it
pub below_iff : (n x : ℕ) → Between 0 n x ↔ (x < n + 1)
below_iff n x = (λ h. omega arith, λ h. (omega arith, omega arith))

-- nothing but 0
pub zero_iff : (x : ℕ) → Between 0 0 x ↔ (x ≡ 0)
zero_iff x = (λ h. omega arith, λ e. (omega arith, omega arith))

-- the lowest bits
pub low_bits : (x n : ℕ) → x / 1 % n ≡ x % n
low_bits x n = let e : x / 1 ≡ x = omega arith in rw e

-- facts of each index below a number
pub indexes_iff : (g : ℕ → List Fact) (n : ℕ) → AllHold (flat_map g (indexes n)) ↔ ((i : ℕ) → i < n → AllHold (g i))
indexes_iff g n =
    let each = all_each g (indexes n) in
    (λ h i l. each.0 h i ((index_iff n i).1 l), λ h. each.1 (λ i m. h i ((index_iff n i).0 m)))
