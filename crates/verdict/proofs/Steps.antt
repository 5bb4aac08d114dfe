-- A walk whose records all have one size: x is one of its starts exactly where it is a whole number of sizes after the first, and
-- before the end.
use Prim.Native.Nat.{ℕ, suc, zero, ◌+◌, ◌*◌, ◌<◌}
use mathlib.Core.Path.{◌≡◌, refl, sym, subst}
use mathlib.Core.Bool.{Bool, true, false, cond}
use mathlib.Core.Logic.{⊎_elim, ◌↔◌}
use mathlib.Core.List.Memᴰ
use mathlib.Core.List.{[], ◌∷◌, Memᴰ}
use native.Mathlib.Nat.{mul-zero, mul-suc}
use native.Mathlib.Omega.{arith}
use borrow.Author.Tests.{ltb-true}
use lib.Dec.{ltb}
use Rattle.verdict.specs.Walk.{walk, starts_from}
use Rattle.verdict.proofs.Walk.{starts_step}

-- x stands j sizes after a, and before the end
abbrev pub Stands : ℕ → ℕ → ℕ → ℕ → Type 0
Stands s end a x = (j : ℕ) × (x ≡ a + s * j) × (x < end)

stands_walk : (s end k a x : ℕ) → Memᴰ x (walk (λ _. s) end k a) → Stands s end a x
unfolding walk
stands_walk s end zero a x m = absurd (Memᴰ.not-nil m)
stands_walk s end (suc k) a x m = go (ltb a end) refl m (λ h. stands_walk s end k (a + s) x h)
  where
    further : Stands s end (a + s) x → Stands s end a x
    further w = (suc w.0, omega (arith, mul-suc s w.0, w.1), w.2)

    go : (b : Bool) → ltb a end ≡ b → Memᴰ x (cond b (a ∷ walk (λ _. s) end k (a + s)) []) → (Memᴰ x (walk (λ _. s) end k (a + s)) → Stands s end (a + s) x) → Stands s end a x
    go true e h ih = ⊎_elim (λ (q : x ≡ a). (zero, omega (arith, mul-zero s), omega (arith, ltb-true a end e))) (λ h'. further (ih h')) (Memᴰ.cases_cons h)
    go false e h ih = absurd (Memᴰ.not-nil h)

module _ (s end : ℕ) (pos : 0 < s) where
  stands_member : (j a x : ℕ) → x ≡ a + s * j → x < end → Memᴰ x (starts_from (λ _. s) end a)
  stands_member zero a x e h =
      let z = mul-zero s in
      let q : a ≡ x = omega arith in
      subst (λ l. Memᴰ x l) (sym (starts_step (λ _. s) end (λ _. pos) a (omega arith))) (Memᴰ.head (sym q))
  stands_member (suc j) a x e h =
      let z = mul-suc s j in
      subst (λ l. Memᴰ x l) (sym (starts_step (λ _. s) end (λ _. pos) a (omega arith))) (Memᴰ.tail (stands_member j (a + s) x (omega arith) h))

  pub fixed_iff : (a x : ℕ) → Memᴰ x (starts_from (λ _. s) end a) ↔ Stands s end a x
  unfolding starts_from
  fixed_iff a x = (λ m. stands_walk s end end a x m, λ w. stands_member w.0 a x w.1 w.2)
