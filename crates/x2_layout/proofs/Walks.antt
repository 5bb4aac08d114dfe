-- The starts of what stands without gaps, as members of their list: each lies between the first and the end, is reached from the first,
-- and what is reached below the end is one of them.
use Prim.Native.Nat.{ℕ, suc, zero, ◌+◌, ◌*◌, ◌≤◌, ◌<◌}
use mathlib.Core.Path.{◌≡◌, refl, sym, subst}
use mathlib.Core.Bool.{Bool, true, false, cond}
use mathlib.Core.Logic.{⊎_elim, ◌↔◌}
use mathlib.Core.List.Memᴰ
use mathlib.Core.List.{[], ◌∷◌, Memᴰ}
use lib.Dec.{ltb}
use native.Mathlib.Nat.{le_refl}
use native.Mathlib.Omega.{arith}
use borrow.Author.Tests.{ltb-true}
use Rattle.verdict.specs.Walk.{walk, starts_from, Reach, here, onward}
use Rattle.verdict.proofs.Walk.{starts_step, reach_le, reach_fixed}
use Rattle.x2_layout.specs.Facts.{indexes}

-- what a walk of at most k says of each of its starts
pub record Between (size : ℕ → ℕ) (a b x : ℕ) : Type 0 where
  pub reached : Reach size a x
  pub below : x < b

module _ (size : ℕ → ℕ) (end x : ℕ) where
  walk_between : (k at : ℕ) → Memᴰ x (walk size end k at) → Between size at end x
  unfolding walk
  walk_between zero at m = absurd (Memᴰ.not-nil m)
  walk_between (suc k) at m = by_test (ltb at end) refl m (walk_between k (at + size at))
    where
      by_test : (t : Bool) → ltb at end ≡ t → Memᴰ x (cond t (at ∷ walk size end k (at + size at)) []) → (Memᴰ x (walk size end k (at + size at)) → Between size (at + size at) end x) → Between size at end x
      by_test true e m ih =
          ⊎_elim (λ (q : x ≡ at). record { reached = subst (Reach size at) (sym q) here; below = let h = ltb-true at end e in omega arith })
          (λ (n : Memᴰ x (walk size end k (at + size at))). record { reached = onward (ih n).reached; below = (ih n).below }) (Memᴰ.cases_cons m)
      by_test false e m ih = absurd (Memᴰ.not-nil m)

  pub starts_between : (at : ℕ) → Memᴰ x (starts_from size end at) → Between size at end x
  unfolding starts_from
  starts_between at m = walk_between end at m

  pub starts_reached : ((y : ℕ) → 0 < size y) → (at : ℕ) → Reach size at x → x < end → Memᴰ x (starts_from size end at)
  starts_reached pos at here h = rw (starts_step size end pos x h) (Memᴰ.head refl)
  starts_reached pos at (onward r) h = let g = reach_le r in rw (starts_step size end pos at (omega (arith, pos at))) (Memᴰ.tail (starts_reached pos (at + size at) r h))

-- what is reached from a place on the way to another, and where it ends
module _ {size : ℕ → ℕ} (pos : (y : ℕ) → 0 < size y) where
  pub reach_rest : {a x b : ℕ} → Reach size a x → Reach size a b → x ≤ b → Reach size x b
  reach_rest here s h = s
  reach_rest {a} (onward r) here h = let g = reach_le r in absurd (omega (arith, pos a))
  reach_rest (onward r) (onward s) h = reach_rest r s h

  next_le : {x b : ℕ} → Reach size x b → x < b → x + size x ≤ b
  next_le here h = absurd (omega arith)
  next_le (onward r) h = reach_le r

  -- the same places are reached by sizes that are the same on the way
  pub reach_alike : (own : ℕ → ℕ) (b : ℕ) {a x : ℕ} → ((y : ℕ) → a ≤ y → y < b → size y ≡ own y) → Reach size a x → x ≤ b → Reach own a x
  reach_alike own b same here h = here
  reach_alike own b {a} {x} same (onward r) h =
      let g = reach_le r in
      onward {a = a} {b = x} (rw (← same a (le_refl a) (omega (arith, pos a))) (reach_alike own b (λ y p q. same y (omega arith) q) r h))

  pub reach_ends : {a x b : ℕ} → Reach size a x → Reach size a b → x < b → x + size x ≤ b
  reach_ends r s h = next_le (reach_rest r s (omega arith)) h

pub index_iff : (n i : ℕ) → Memᴰ i (indexes n) ↔ (i < n)
unfolding indexes
index_iff n i = (λ m. (starts_between (λ _. 1) n i 0 m).below, λ h. starts_reached (λ _. 1) n i (λ y. omega arith) 0 reached h)
  where
    reached : Reach (λ _. 1) 0 i
    reached = let e : 0 + i * 1 ≡ i = omega arith in subst (Reach (λ _. 1) 0) e (reach_fixed (λ _. 1) 1 i 0 (omega arith) (λ y p q. refl))
