-- The laws of walks without gaps: one step, the stop, what is reached, and how a place is found or missed among the starts.
use Prim.Native.Nat.{ℕ, suc, zero, ◌+◌, ◌-◌, ◌*◌, ◌/◌, ◌%◌, ◌≤◌, ◌<◌}
use mathlib.Core.Path.{◌≡◌, refl, ap, sym, subst, ◌∙◌}
use mathlib.Core.Bool.{Bool, true, false, cond, ◌&&◌, or-false}
use mathlib.Core.Logic.{◌⊎◌, inl, inr, ⊎_elim}
use mathlib.Core.List.{List, [], ◌∷◌, Memᴰ}
use native.Mathlib.Nat.{le_refl, zero-mul, suc-mul, div-add-mod', mod-lt}
use native.Mathlib.Omega.{arith}
use borrow.Author.Tests.{lt-ltb, le-ltb, ltb-true, ltb-false, eqb-true, eqb-false}
use lib.Dec.{ltb, eqb}
use Rattle.verdict.specs.Facts.{any_of}
use Rattle.verdict.specs.Walk.{walk, starts_from, Reach, here, onward}

module _ (size : ℕ → ℕ) (end : ℕ) where
  walk_past : (k at : ℕ) → end ≤ at → walk size end k at ≡ []
  unfolding walk
  walk_past zero at h = refl
  walk_past (suc k) at h = rw (le-ltb at end h)

  -- more steps than are left of the bytes change nothing
  walk_enough : ((x : ℕ) → 0 < size x) → (k j at : ℕ) → end - at ≤ k → end - at ≤ j → walk size end k at ≡ walk size end j at
  unfolding walk
  walk_enough pos zero j at h g = sym (walk_past j at (omega arith))
  walk_enough pos (suc k) zero at h g = walk_past (suc k) at (omega arith)
  walk_enough pos (suc k) (suc j) at h g = go (ltb at end) refl (λ l. walk_enough pos k j (at + size at) (omega (arith, pos at)) (omega (arith, pos at)))
    where
      go : (t : Bool) → ltb at end ≡ t → (at < end → walk size end k (at + size at) ≡ walk size end j (at + size at)) → cond t (at ∷ walk size end k (at + size at)) [] ≡ cond t (at ∷ walk size end j (at + size at)) []
      go true e ih = ap (λ (l : List ℕ). at ∷ l) (ih (ltb-true at end e))
      go false e ih = refl

  pub starts_step : ((x : ℕ) → 0 < size x) → (at : ℕ) → at < end → starts_from size end at ≡ at ∷ starts_from size end (at + size at)
  unfolding starts_from walk
  starts_step pos at h = walk_enough pos end (suc end) at (omega arith) (omega arith) ∙ rw (lt-ltb at end h)

  pub starts_stop : (at : ℕ) → end ≤ at → starts_from size end at ≡ []
  unfolding starts_from
  starts_stop at h = walk_past end at h

pub reach_le : {size : ℕ → ℕ} {a b : ℕ} → Reach size a b → a ≤ b
reach_le (here {a = a}) = le_refl a
reach_le (onward r) = let h = reach_le r in omega arith

pub reach_join : {size : ℕ → ℕ} {a b c : ℕ} → Reach size a b → Reach size b c → Reach size a c
reach_join here s = s
reach_join (onward r) s = onward (reach_join r s)

-- k steps of one size
pub reach_fixed : (size : ℕ → ℕ) (s k a : ℕ) → 0 < s → ((y : ℕ) → a ≤ y → y < a + k * s → size y ≡ s) → Reach size a (a + k * s)
reach_fixed size s zero a z h = subst (Reach size a) (omega (arith, zero-mul s)) here
reach_fixed size s (suc k) a z h =
    let m = suc-mul k s in
    let e : size a ≡ s = h a (le_refl a) (omega arith) in
    let g : (a + s) + k * s ≡ a + suc k * s = omega arith in
    onward {a = a} {b = a + suc k * s} (rw e (subst (Reach size (a + s)) g (reach_fixed size s k (a + s) z (λ y p q. h y (omega arith) (omega arith)))))

-- a region of whole records of one size
pub reach_region : (size : ℕ → ℕ) (s a b : ℕ) → 0 < s → a ≤ b → (b - a) % s ≡ 0 → ((y : ℕ) → a ≤ y → y < b → size y ≡ s) → Reach size a b
reach_region size s a b z l e h =
    let d = div-add-mod' (b - a) s in
    let g : a + (b - a) / s * s ≡ b = omega arith in
    subst (Reach size a) g (reach_fixed size s ((b - a) / s) a z (λ y p q. h y p (omega arith)))

-- a region of records that each end in it
pub reach_walk : (size own : ℕ → ℕ) (a b : ℕ) → ((y : ℕ) → a ≤ y → y < b → size y ≡ own y) → a ≤ b → ((y : ℕ) → 0 < own y) → ((y : ℕ) → Memᴰ y (starts_from own b a) → y + own y ≤ b) → Reach size a b
unfolding starts_from walk
reach_walk size own a b same l pos ends = go b a (omega arith) (le_refl a) l ends
  where
    go : (k at : ℕ) → b - at ≤ k → a ≤ at → at ≤ b → ((y : ℕ) → Memᴰ y (walk own b k at) → y + own y ≤ b) → Reach size at b
    go zero at h f g e = subst (Reach size at) (omega arith) here
    go (suc k) at h f g e = step (ltb at b) refl e (λ p q. go k (at + own at) (omega (arith, pos at)) (omega arith) p q)
      where
        step : (t : Bool) → ltb at b ≡ t → ((y : ℕ) → Memᴰ y (cond t (at ∷ walk own b k (at + own at)) []) → y + own y ≤ b) → (at + own at ≤ b → ((y : ℕ) → Memᴰ y (walk own b k (at + own at)) → y + own y ≤ b) → Reach size (at + own at) b) → Reach size at b
        step true q e ih = onward {a = at} {b = b} (rw (same at f (ltb-true at b q)) (ih (e at (Memᴰ.head refl)) (λ y m. e y (Memᴰ.tail m))))
        step false q e ih = let z = ltb-false at b q in subst (Reach size at) (omega arith) here

-- Looking for x among the starts: a test that no other place passes.
module _ (size : ℕ → ℕ) (end x : ℕ) (t : ℕ → Bool) (only : (y : ℕ) → (y ≡ x → ⊥) → t y ≡ false) where
  walk_none : (k at : ℕ) → ((x < at) ⊎ (end ≤ x)) → any_of t (walk size end k at) ≡ false
  unfolding walk
  walk_none zero at h = refl
  walk_none (suc k) at h = go (ltb at end) refl (walk_none k (at + size at) (⊎_elim (λ (p : x < at). inl (omega arith)) (λ (p : end ≤ x). inr p) h))
    where
      go : (b : Bool) → ltb at end ≡ b → any_of t (walk size end k (at + size at)) ≡ false → any_of t (cond b (at ∷ walk size end k (at + size at)) []) ≡ false
      go false e ih = refl
      go true e ih = rw (only at (⊎_elim (λ (p : x < at). λ (q : at ≡ x). omega arith) (λ (p : end ≤ x). λ (q : at ≡ x). omega (arith, ltb-true at end e)) h)) ih

  pub find_none : (at : ℕ) → ((x < at) ⊎ (end ≤ x)) → any_of t (starts_from size end at) ≡ false
  unfolding starts_from
  find_none at h = walk_none end at h

  module _ (pos : (y : ℕ) → 0 < size y) where
    pub find_skip : {a b : ℕ} → Reach size a b → b ≤ x → b ≤ end → any_of t (starts_from size end a) ≡ any_of t (starts_from size end b)
    find_skip here h g = refl
    find_skip {a} {b} (onward r) h g = let l = reach_le r in rw (starts_step size end pos a (omega (arith, pos a)), only a (λ q. omega (arith, pos a))) (find_skip r h g)

    -- x is a start
    pub find_there : (a : ℕ) → Reach size a x → x < end → any_of t (starts_from size end a) ≡ t x
    find_there a r h = find_skip r (le_refl x) (omega arith) ∙ rw (starts_step size end pos x h, find_none (x + size x) (inl (omega (arith, pos x)))) (or-false (t x))

    -- x lies inside a record
    pub find_inside : (a y : ℕ) → Reach size a y → y < x → x < y + size y → y < end → any_of t (starts_from size end a) ≡ false
    find_inside a y r h g l = find_skip r (omega arith) (omega arith) ∙ rw (starts_step size end pos y l, only y (λ q. omega arith)) (find_none (y + size y) (inl g))

    -- a region of records of one size
    pub find_fixed :
        (from a b s : ℕ) → Reach size from a → 0 < s → ((y : ℕ) → a ≤ y → y < b → size y ≡ s) → a ≤ x → x < b → b ≤ end
        → any_of t (starts_from size end from) ≡ (eqb ((x - a) % s) 0 && t x)
    find_fixed from a b s r z sz h g e =
        let d = div-add-mod' (x - a) s in
        let m = mod-lt (x - a) z in
        pick (eqb ((x - a) % s) 0) refl (reach_join r (reach_fixed size s ((x - a) / s) a z (λ y p q. sz y p (omega arith)))) d m
      where
        pick : (b : Bool) → eqb ((x - a) % s) 0 ≡ b → Reach size from (a + (x - a) / s * s) → (x - a) / s * s + (x - a) % s ≡ x - a → (x - a) % s < s → any_of t (starts_from size end from) ≡ (b && t x)
        pick true q r' d m = let z' = eqb-true ((x - a) % s) 0 q in let y : a + (x - a) / s * s ≡ x = omega arith in find_there from (subst (Reach size from) y r') (omega arith)
        pick false q r' d m =
            let n = eqb-false ((x - a) % s) 0 q in
            let w : size (a + (x - a) / s * s) ≡ s = sz (a + (x - a) / s * s) (omega arith) (omega arith) in
            find_inside from (a + (x - a) / s * s) r' (omega arith) (omega arith) (omega arith)
