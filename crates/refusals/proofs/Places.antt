-- The places of facts that fail. Where the places of a list rise, the first fact that fails has the lowest place of all that fail.
use Prim.Native.Nat.{ℕ, suc, zero, ◌+◌, ◌*◌, ◌≤◌, ◌<◌}
use mathlib.Core.Path.{◌≡◌, refl, sym, ap, subst, ◌∙◌}
use mathlib.Core.Bool.{Bool, true, false, cond}
use mathlib.Core.Logic.{◌⊎◌, inl, inr, ⊎_elim, ◌↔◌}
use mathlib.Core.List.Memᴰ
use mathlib.Core.List.{List, [], ◌∷◌, ◌++◌, flat_map, Memᴰ}
use lib.Dec.{ltb}
use native.Mathlib.Nat.{mul-zero, mul-suc}
use native.Mathlib.Omega.{arith}
use borrow.Author.Tests.{ltb-true}
use Rattle.verdict.specs.declared.Mark.{Mark}
use Rattle.std.specs.Prelude.{Ok, Err}
use Rattle.verdict.specs.Facts.{test, Holds, Fact, fact, first_fault, AllHold}
use Rattle.verdict.specs.Walk.{walk, starts_from}
use Rattle.verdict.proofs.Facts.{Agrees, agrees, never}
use Rattle.verdict.proofs.Orders.{le-or-lt}
use Rattle.verdict.specs.Order.{Lowest, Or, InFirst}
use Rattle.refusals.proofs.Sections.{Each}

-- ---- p is the place of a fact that fails

abbrev pub Failing : List Fact → ℕ → Type 0
Failing [] p = ⊥
Failing (fact c m ∷ fs) p = ((p ≡ m.place) × (Holds c → ⊥)) ⊎ Failing fs p

pub failing_append : (a b : List Fact) (p : ℕ) → Failing (a ++ b) p ↔ (Failing a p ⊎ Failing b p)
failing_append [] b p = (λ h. inr h, λ h. ⊎_elim (λ (x : ⊥). absurd x) (λ (x : Failing b p). x) h)
failing_append (fact c m ∷ fs) b p = (there (failing_append fs b p), back (failing_append fs b p))
  where
    there : Failing (fs ++ b) p ↔ (Failing fs p ⊎ Failing b p) → ((p ≡ m.place) × (Holds c → ⊥)) ⊎ Failing (fs ++ b) p → (((p ≡ m.place) × (Holds c → ⊥)) ⊎ Failing fs p) ⊎ Failing b p
    there ih (inl h) = inl (inl h)
    there ih (inr h) = ⊎_elim (λ (g : Failing fs p). inl (inr g)) (λ (g : Failing b p). inr g) (ih.0 h)

    back : Failing (fs ++ b) p ↔ (Failing fs p ⊎ Failing b p) → (((p ≡ m.place) × (Holds c → ⊥)) ⊎ Failing fs p) ⊎ Failing b p → ((p ≡ m.place) × (Holds c → ⊥)) ⊎ Failing (fs ++ b) p
    back ih (inl (inl h)) = inl h
    back ih (inl (inr h)) = inr (ih.1 (inl h))
    back ih (inr h) = inr (ih.1 (inr h))

pub failing_each : (g : ℕ → List Fact) (xs : List ℕ) (p : ℕ) → Failing (flat_map g xs) p ↔ ((x : ℕ) × Memᴰ x xs × Failing (g x) p)
unfolding flat_map
failing_each g [] p = (λ h. absurd h, λ w. absurd (Memᴰ.not-nil w.1))
failing_each g (y ∷ ys) p =
    let ih = failing_each g ys p in
    let cut = failing_append (g y) (flat_map g ys) p in (
      λ h. ⊎_elim (λ (a : Failing (g y) p). (y, Memᴰ.head refl, a)) (λ (a : Failing (flat_map g ys) p). let w = ih.0 a in (w.0, Memᴰ.tail w.1, w.2)) (cut.0 h),
      λ w. cut.1 (⊎_elim (λ (e : w.0 ≡ y). inl (subst (λ (x : ℕ). Failing (g x) p) e w.2)) (λ (m : Memᴰ w.0 ys). inr (ih.1 (w.0, m, w.2))) (Memᴰ.cases_cons w.1)),
    )

pub held_none : (fs : List Fact) (p : ℕ) → AllHold fs → Failing fs p → ⊥
unfolding AllHold
held_none [] p h g = g
held_none (fact c m ∷ fs) p h (inl g) = g.1 h.0
held_none (fact c m ∷ fs) p h (inr g) = held_none fs p h.1 g

module _ (at p : ℕ) where
  placed : (l : List Fact) → Each (λ c m. m.place ≡ at) l → Failing l p → p ≡ at
  placed [] k h = absurd h
  placed (fact c m ∷ l) k (inl h) = h.0 ∙ k.0
  placed (fact c m ∷ l) k (inr h) = placed l k.1 h

  fails : (l : List Fact) → Each (λ c m. m.place ≡ at) l → p ≡ at → (AllHold l → ⊥) → Failing l p
  unfolding AllHold
  fails [] k e n = n tt
  fails (fact c m ∷ l) k e n = pick (test c) (agrees c) (fails l k.1 e)
    where
      pick : (t : Bool) → Agrees t (Holds c) → ((AllHold l → ⊥) → Failing l p) → ((p ≡ m.place) × (Holds c → ⊥)) ⊎ Failing l p
      pick true a ih = inr (ih (λ g. n (a, g)))
      pick false a ih = inl (e ∙ sym k.0, a)

-- LAW: facts at one place, that hold exactly where a statement does, fail exactly there and where it does not.
pub one_place : (at : ℕ) (fs : List Fact) (A : Type 0) → Each (λ c m. m.place ≡ at) fs → AllHold fs ↔ A → (p : ℕ) → Failing fs p ↔ ((p ≡ at) × (A → ⊥))
one_place at fs A k iff p = (λ h. (placed at p fs k h, λ a. held_none fs p (iff.1 a) h), λ h. fails at p fs k h.0 (λ g. h.1 (iff.0 g)))

-- ---- the places rise

-- the places of a list rise, and lie between two numbers
abbrev pub Rises : ℕ → ℕ → List Fact → Type 0
Rises low high [] = low ≤ high
Rises low high (fact c m ∷ fs) = (low ≤ m.place) × Rises m.place high fs

rises_lower : (low mid high : ℕ) (fs : List Fact) → low ≤ mid → Rises mid high fs → Rises low high fs
rises_lower low mid high [] l h = omega arith
rises_lower low mid high (fact c m ∷ fs) l h = (omega (arith, h.0), h.1)

pub rises_append : (low mid high : ℕ) (a b : List Fact) → Rises low mid a → Rises mid high b → Rises low high (a ++ b)
rises_append low mid high [] b h g = rises_lower low mid high b h g
rises_append low mid high (fact c m ∷ fs) b h g = (h.0, rises_append m.place mid high fs b h.1 g)

-- the facts of records without gaps, each in its record
pub rises_walk : (size : ℕ → ℕ) (end high : ℕ) (g : ℕ → List Fact) → ((x : ℕ) → Rises x (x + size x) (g x)) → (k at : ℕ) → at ≤ high
    → ((x : ℕ) → Memᴰ x (walk size end k at) → x + size x ≤ high) → Rises at high (flat_map g (walk size end k at))
unfolding walk flat_map
rises_walk size end high g own zero at l inside = l
rises_walk size end high g own (suc k) at l inside = go (ltb at end) inside (rises_walk size end high g own k (at + size at))
  where
    go : (t : Bool) → ((x : ℕ) → Memᴰ x (cond t (at ∷ walk size end k (at + size at)) []) → x + size x ≤ high)
        → (at + size at ≤ high → ((x : ℕ) → Memᴰ x (walk size end k (at + size at)) → x + size x ≤ high) → Rises (at + size at) high (flat_map g (walk size end k (at + size at))))
        → Rises at high (flat_map g (cond t (at ∷ walk size end k (at + size at)) []))
    go true inside ih =
        rises_append at (at + size at) high (g at) (flat_map g (walk size end k (at + size at))) (own at)
        (ih (inside at (Memᴰ.head refl)) (λ x m. inside x (Memᴰ.tail m)))
    go false inside ih = l

pub rises_starts : (size : ℕ → ℕ) (end high : ℕ) (g : ℕ → List Fact) → ((x : ℕ) → Rises x (x + size x) (g x)) → (at : ℕ) → at ≤ high
    → ((x : ℕ) → Memᴰ x (starts_from size end at) → x + size x ≤ high) → Rises at high (flat_map g (starts_from size end at))
unfolding starts_from
rises_starts size end high g own at l inside = rises_walk size end high g own end at l inside

rises_above : (low high : ℕ) (fs : List Fact) → Rises low high fs → (q : ℕ) → Failing fs q → low ≤ q
rises_above low high [] h q g = absurd g
rises_above low high (fact c m ∷ fs) h q (inl g) = omega (arith, h.0, g.0)
rises_above low high (fact c m ∷ fs) h q (inr g) = let r = rises_above m.place high fs h.1 q g in omega (arith, h.0)

-- ---- where a list's refusal is reported

-- the place of the first fact that fails is as said
abbrev pub Located : List Fact → (ℕ → Type 0) → Type 0
Located fs Q = (m : Mark) → first_fault fs ≡ Err m → Q m.place

-- no two places are as said
abbrev pub Only : (ℕ → Type 0) → Type 0
Only Q = (p q : ℕ) → Q p → Q q → p ≡ q

pub only_lowest : (P : ℕ → Type 0) → Only (Lowest P)
only_lowest P p q a b = omega (arith, a.least q b.there, b.least p a.there)

pub only_or : (P Q : ℕ → Type 0) → Only Q → Only (Or P Q)
only_or P Q o p q (inl a) (inl b) = only_lowest P p q a b
only_or P Q o p q (inl a) (inr b) = absurd (b.0 p a.there)
only_or P Q o p q (inr a) (inl b) = absurd (a.0 q b.there)
only_or P Q o p q (inr a) (inr b) = o p q a.1 b.1

-- LAW: where the places rise, a refusal is at the lowest place of a fact that fails.
first_lowest : (low high : ℕ) (fs : List Fact) → Rises low high fs → Located fs (Lowest (Failing fs))
unfolding first_fault
first_lowest low high [] r m e = absurd (never m (sym e))
first_lowest low high (fact c n ∷ fs) r m e = go (test c) (agrees c) e (first_lowest n.place high fs r.1 m)
  where
    go : (t : Bool) → Agrees t (Holds c) → cond t (first_fault fs) (Err n) ≡ Err m → (first_fault fs ≡ Err m → Lowest (Failing fs) m.place) → Lowest (Failing (fact c n ∷ fs)) m.place
    go true a e ih = let w = ih e in record { there = inr w.there; least = λ q g. ⊎_elim (λ (x : (q ≡ n.place) × (Holds c → ⊥)). absurd (x.1 a)) (λ (x : Failing fs q). w.least q x) g }
    go false a e ih =
        let x : n ≡ m = cc in
        subst (λ (i : Mark). Lowest (Failing (fact c n ∷ fs)) i.place) x
        (record { there = inl (refl, a); least = λ q g. rises_above n.place high (fact c n ∷ fs) (omega arith, r.1) q g })

pub located : (low high : ℕ) (fs : List Fact) (P : ℕ → Type 0) → Rises low high fs → ((p : ℕ) → Failing fs p ↔ P p) → Located fs (Lowest P)
located low high fs P r iff m e =
    let w = first_lowest low high fs r m e in
    record { there = (iff m.place).0 w.there; least = λ q g. w.least q ((iff q).1 g) }

-- of two lists: the first counts where one of its facts fails
pub refused_cut : (a b : List Fact) (m : Mark) → first_fault (a ++ b) ≡ Err m → (first_fault a ≡ Err m) ⊎ (AllHold a × (first_fault b ≡ Err m))
unfolding first_fault AllHold
refused_cut [] b m e = inr (tt, e)
refused_cut (fact c n ∷ fs) b m e = go (test c) (agrees c) e (refused_cut fs b m)
  where
    go : (t : Bool) → Agrees t (Holds c) → cond t (first_fault (fs ++ b)) (Err n) ≡ Err m
        → (first_fault (fs ++ b) ≡ Err m → (first_fault fs ≡ Err m) ⊎ (AllHold fs × (first_fault b ≡ Err m)))
        → (cond t (first_fault fs) (Err n) ≡ Err m) ⊎ ((Holds c × AllHold fs) × (first_fault b ≡ Err m))
    go true a e ih = ⊎_elim (λ (x : first_fault fs ≡ Err m). inl x) (λ (x : AllHold fs × (first_fault b ≡ Err m)). inr ((a, x.0), x.1)) (ih e)
    go false a e ih = inl e

pub located_or : (a b : List Fact) (P Q : ℕ → Type 0) → Located a (Lowest P) → ((p : ℕ) → Failing a p ↔ P p) → (AllHold a → Located b Q) → Located (a ++ b) (Or P Q)
located_or a b P Q first iff next m e =
    ⊎_elim (λ (x : first_fault a ≡ Err m). inl (first m x)) (λ (x : AllHold a × (first_fault b ≡ Err m)). inr (λ q g. held_none a q x.0 ((iff q).1 g), next x.0 m x.1)) (refused_cut a b m e)

-- facts at one place
pub rises_one : (at low high : ℕ) (fs : List Fact) → Each (λ c m. m.place ≡ at) fs → low ≤ at → at ≤ high → Rises low high fs
rises_one at low high [] k l h = omega arith
rises_one at low high (fact c m ∷ fs) k l h = (omega (arith, k.0), rises_one at m.place high fs k.1 (omega (arith, k.0)) h)

pub located_one : (at : ℕ) (fs : List Fact) → Each (λ c m. m.place ≡ at) fs → Located fs (λ p. p ≡ at)
unfolding first_fault
located_one at [] k m e = absurd (never m (sym e))
located_one at (fact c n ∷ fs) k m e = go (test c) e (located_one at fs k.1 m)
  where
    go : (t : Bool) → cond t (first_fault fs) (Err n) ≡ Err m → (first_fault fs ≡ Err m → m.place ≡ at) → m.place ≡ at
    go true e ih = ih e
    go false e ih = let x : n ≡ m = cc in ap (λ (i : Mark). i.place) (sym x) ∙ k.0

pub only_at : (at : ℕ) → Only (λ p. p ≡ at)
only_at at p q a b = a ∙ sym b

-- ---- by record: the first that has a fault

pub only_in_first : (n : ℕ) (P : ℕ → ℕ → Type 0) → Only (InFirst n P)
only_in_first n P p q a b = pick (le-or-lt a.which b.which) (le-or-lt b.which a.which)
  where
    pick : ((a.which ≤ b.which) ⊎ (b.which < a.which)) → ((b.which ≤ a.which) ⊎ (a.which < b.which)) → p ≡ q
    pick (inr l) m = absurd (a.before b.which l q b.lowest.there)
    pick (inl l) (inr m) = absurd (b.before a.which m p a.lowest.there)
    pick (inl l) (inl m) =
        let e : a.which ≡ b.which = omega arith in
        only_lowest (P b.which) p q (subst (λ (i : ℕ). Lowest (P i) p) e a.lowest) b.lowest

-- the refusal of records of one size: that of the first whose facts do not all hold
pub record FirstOf (s end at : ℕ) (g : ℕ → List Fact) (m : Mark) : Type 0 where
  pub which : ℕ
  pub inside : at + s * which < end
  pub before : (i : ℕ) → i < which → AllHold (g (at + s * i))
  pub refused : first_fault (g (at + s * which)) ≡ Err m

module _ (s end : ℕ) (g : ℕ → List Fact) (m : Mark) where
  next-first : (at : ℕ) → at < end → AllHold (g at) → FirstOf s end (at + s) g m → FirstOf s end at g m
  next-first at l h w = record {
    which = suc w.which;
    inside = omega (arith, mul-suc s w.which, w.inside);
    before = λ i k. held i k;
    refused = subst (λ (x : ℕ). first_fault (g x) ≡ Err m) (step w.which) w.refused;
  }
    where
      step : (i : ℕ) → (at + s) + s * i ≡ at + s * suc i
      step i = let z = mul-suc s i in omega arith

      held : (i : ℕ) → i < suc w.which → AllHold (g (at + s * i))
      held zero k = let z = mul-zero s in let e : at ≡ at + s * 0 = omega arith in subst (λ (x : ℕ). AllHold (g x)) e h
      held (suc i) k = subst (λ (x : ℕ). AllHold (g x)) (step i) (w.before i (omega arith))

  this_first : (at : ℕ) → at < end → first_fault (g at) ≡ Err m → FirstOf s end at g m
  this_first at l e =
      let z = mul-zero s in
      let q : at ≡ at + s * 0 = omega arith in
      record { which = 0; inside = omega arith; before = λ i k. absurd (omega arith); refused = subst (λ (x : ℕ). first_fault (g x) ≡ Err m) q e }

  first_walk : (k at : ℕ) → first_fault (flat_map g (walk (λ _. s) end k at)) ≡ Err m → FirstOf s end at g m
  unfolding walk flat_map first_fault
  first_walk zero at e = absurd (never m (sym e))
  first_walk (suc k) at e = go (ltb at end) refl e (first_walk k (at + s))
    where
      go : (t : Bool) → ltb at end ≡ t → first_fault (flat_map g (cond t (at ∷ walk (λ _. s) end k (at + s)) [])) ≡ Err m
          → (first_fault (flat_map g (walk (λ _. s) end k (at + s))) ≡ Err m → FirstOf s end (at + s) g m) → FirstOf s end at g m
      go true q e ih =
          ⊎_elim (λ (x : first_fault (g at) ≡ Err m). this_first at (ltb-true at end q) x)
          (λ (x : AllHold (g at) × (first_fault (flat_map g (walk (λ _. s) end k (at + s))) ≡ Err m)). next-first at (ltb-true at end q) x.0 (ih x.1))
          (refused_cut (g at) (flat_map g (walk (λ _. s) end k (at + s))) m e)
      go false q e ih = absurd (never m (sym e))

pub first-of : (s end at : ℕ) (g : ℕ → List Fact) (m : Mark) → first_fault (flat_map g (starts_from (λ _. s) end at)) ≡ Err m → FirstOf s end at g m
unfolding starts_from
first-of s end at g m e = first_walk s end g m end at e
