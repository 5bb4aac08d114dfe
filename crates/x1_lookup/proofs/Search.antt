-- The laws of `first_where`: one turn of a loop over records that stand without gaps, and its end; what an answer says; and, where all
-- records have one size, the answer by the count of sizes after the first.
use Prim.Native.Nat.{ℕ, suc, zero, ◌+◌, ◌*◌, ◌≤◌, ◌<◌}
use mathlib.Core.Path.{◌≡◌, refl, sym, ap, ◌∙◌}
use mathlib.Core.Bool.{Bool, true, false, cond}
use mathlib.Core.Logic.{⊎_elim, ◌↔◌}
use mathlib.Core.List.Memᴰ
use mathlib.Core.List.{List, [], ◌∷◌, Memᴰ}
use native.Mathlib.Nat.{mul-zero, mul-suc}
use native.Mathlib.Omega.{arith}
use borrow.Author.Tests.{ltb-true}
use lib.Dec.{ltb}
use Rattle.verdict.specs.Walk.{walk, starts_from}
use Rattle.verdict.proofs.Walk.{starts_step, starts_stop}
use Rattle.verdict.proofs.Steps.{fixed_iff}
use Rattle.x1_lookup.specs.Lookup.{first_where}
use Rattle.std.specs.Prelude.{Option, Some, None}

-- ---- the two answers

pub never_both : (o : Option ℕ) (x : ℕ) → o ≡ Some x → o ≡ None → ⊥
never_both o x p q = let z : ◌≡◌ {A = ℕ} 0 1 = cc in omega arith

-- ---- one turn of a loop, and its end

module _ (size : ℕ → ℕ) (end : ℕ) (t : ℕ → Bool) where
  module _ (positive : (x : ℕ) → 0 < size x) (at : ℕ) (h : at < end) where
    pub where_here : t at ≡ true → first_where t (starts_from size end at) ≡ Some at
    unfolding first_where
    where_here e = rw (starts_step size end positive at h, e)

    pub where_next : t at ≡ false → first_where t (starts_from size end (at + size at)) ≡ first_where t (starts_from size end at)
    unfolding first_where
    where_next e = rw (starts_step size end positive at h, e)

  pub where_stop : (at : ℕ) → end ≤ at → first_where t (starts_from size end at) ≡ None
  unfolding first_where
  where_stop at h = rw (starts_stop size end at h)

-- ---- absent: none passes

pub none_iff : (t : ℕ → Bool) (xs : List ℕ) → (first_where t xs ≡ None) ↔ ((x : ℕ) → Memᴰ x xs → t x ≡ false)
unfolding first_where
none_iff t [] = (λ e x m. absurd (Memᴰ.not-nil m), λ h. refl)
none_iff t (y ∷ ys) = let ih = none_iff t ys in (λ e. there (t y) refl ih.0 e, λ h. rw (h y (Memᴰ.head refl)) (ih.1 (λ x m. h x (Memᴰ.tail m))))
  where
    there : (b : Bool) → t y ≡ b → (first_where t ys ≡ None → (x : ℕ) → Memᴰ x ys → t x ≡ false) → cond b (Some y) (first_where t ys) ≡ None → (x : ℕ) → Memᴰ x (y ∷ ys) → t x ≡ false
    there true q ih e x m = absurd (never_both (Some y) y refl e)
    there false q ih e x m = ⊎_elim (λ (p : x ≡ y). ap t p ∙ q) (λ (n : Memᴰ x ys). ih e x n) (Memᴰ.cases_cons m)

-- ---- records of one size

-- x is the first start that passes: it stands some sizes after a and before the end, it passes, and no start before it does
pub record FirstStart (t : ℕ → Bool) (s end a x : ℕ) : Type 0 where
  pub steps : ℕ
  pub there : x ≡ a + s * steps
  pub inside : x < end
  pub passes : t x ≡ true
  pub failed : (i : ℕ) → i < steps → t (a + s * i) ≡ false

first_walk : (t : ℕ → Bool) (s end k a x : ℕ) → first_where t (walk (λ _. s) end k a) ≡ Some x → FirstStart t s end a x
unfolding walk first_where
first_walk t s end zero a x e = absurd (never_both None x e refl)
first_walk t s end (suc k) a x e = by_end (ltb a end) refl e (first_walk t s end k (a + s) x)
  where
    further : t a ≡ false → FirstStart t s end (a + s) x → FirstStart t s end a x
    further q w = record {
      steps = suc w.steps;
      there = omega (arith, mul-suc s w.steps, w.there);
      inside = w.inside;
      passes = w.passes;
      failed = before;
    }
      where
        before : (i : ℕ) → i < suc w.steps → t (a + s * i) ≡ false
        before zero h = let z = mul-zero s in let p : a + s * 0 ≡ a = omega arith in ap t p ∙ q
        before (suc i) h = let z = mul-suc s i in let p : a + s * suc i ≡ a + s + s * i = omega arith in ap t p ∙ w.failed i (omega arith)

    by_test : (b : Bool) → t a ≡ b → a < end → cond b (Some a) (first_where t (walk (λ _. s) end k (a + s))) ≡ Some x → (first_where t (walk (λ _. s) end k (a + s)) ≡ Some x → FirstStart t s end (a + s) x) → FirstStart t s end a x
    by_test true q h e ih =
        let p : a ≡ x = cc in
        record { steps = 0; there = omega (arith, mul-zero s); inside = omega arith; passes = ap t (sym p) ∙ q; failed = λ i l. absurd (omega arith) }
    by_test false q h e ih = further q (ih e)

    by_end : (b : Bool) → ltb a end ≡ b → first_where t (cond b (a ∷ walk (λ _. s) end k (a + s)) []) ≡ Some x → (first_where t (walk (λ _. s) end k (a + s)) ≡ Some x → FirstStart t s end (a + s) x) → FirstStart t s end a x
    by_end true q e ih = by_test (t a) refl (ltb-true a end q) e ih
    by_end false q e ih = absurd (never_both None x e refl)

module _ (t : ℕ → Bool) (s end : ℕ) (positive : 0 < s) where
  first-at : (j a x : ℕ) → x ≡ a + s * j → x < end → t x ≡ true → ((i : ℕ) → i < j → t (a + s * i) ≡ false) → first_where t (starts_from (λ _. s) end a) ≡ Some x
  first-at zero a x e h p f =
      let z = mul-zero s in
      let q : a ≡ x = omega arith in
      where_here (λ _. s) end t (λ _. positive) a (omega arith) (ap t q ∙ p) ∙ ap Some q
  first-at (suc j) a x e h p f =
      let z = mul-suc s j in
      sym (where_next (λ _. s) end t (λ _. positive) a (omega arith) (ap t (start a) ∙ f 0 (omega arith)))
      ∙ first-at j (a + s) x (omega arith) h p (λ i l. ap t (next i) ∙ f (suc i) (omega arith))
    where
      start : (b : ℕ) → b ≡ b + s * 0
      start b = let z = mul-zero s in omega arith

      next : (i : ℕ) → a + s + s * i ≡ a + s * suc i
      next i = let z = mul-suc s i in omega arith

  pub first_iff : (a x : ℕ) → (first_where t (starts_from (λ _. s) end a) ≡ Some x) ↔ FirstStart t s end a x
  unfolding starts_from
  first_iff a x = (first_walk t s end end a x, λ w. first-at w.steps a x w.there w.inside w.passes w.failed)

  pub no_start_iff : (a : ℕ) → (first_where t (starts_from (λ _. s) end a) ≡ None) ↔ ((j : ℕ) → a + s * j < end → t (a + s * j) ≡ false)
  no_start_iff a =
      let none = none_iff t (starts_from (λ _. s) end a) in (
        λ e j h. none.0 e (a + s * j) ((fixed_iff s end positive a (a + s * j)).1 (j, refl, h)),
        λ h. none.1 (λ x m. let w = (fixed_iff s end positive a x).0 m in let p = w.1 in let q = w.2 in ap t p ∙ h w.0 (omega arith)),
      )
