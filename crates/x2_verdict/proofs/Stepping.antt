-- A loop that goes from a place to another by steps of one size: the steps are whole, so that the last one ends where the loop does.
use Prim.Native.Nat.{ℕ, zero, suc, ◌+◌, ◌-◌, ◌*◌, ◌/◌, ◌≤◌, ◌<◌}
use mathlib.Core.Path.{◌≡◌}
use native.Mathlib.Nat.{mul-zero, mul-suc, mul_comm, div-add-mod'}
use native.Mathlib.Omega.{arith}
use Rattle.x2_layout.specs.inner.Regions.{Whole}

-- so many steps of n lie between
abbrev pub Steps : ℕ → ℕ → ℕ → Type 0
Steps n a b = (j : ℕ) × (b ≡ a + n * j)

module _ (n a b : ℕ) where
  pub steps_whole : Whole n a b → Steps n a b
  steps_whole w = let d = div-add-mod' (b - a) n in let e = mul_comm n ((b - a) / n) in ((b - a) / n, omega (arith, w.order, w.whole))

  pub steps_fit : Steps n a b → a < b → a + n ≤ b
  steps_fit (zero, e) h = let z = mul-zero n in absurd (omega arith)
  steps_fit (suc j, e) h = let s = mul-suc n j in omega arith

  pub steps_on : Steps n a b → a < b → Steps n (a + n) b
  steps_on (zero, e) h = let z = mul-zero n in absurd (omega arith)
  steps_on (suc j, e) h = let s = mul-suc n j in (j, omega arith)
