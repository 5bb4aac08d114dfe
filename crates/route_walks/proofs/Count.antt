-- How many lists there are of which P holds is one number, and so is the length of their words: each list weighs something, and lists
-- without repeats weigh no more than ones that have all their elements.
use Prim.Native.Nat.{ℕ, suc, ◌+◌, ◌≤◌}
use native.Mathlib.Omega.{arith}
use mathlib.Core.Path.{◌≡◌, refl, sym, ap, subst}
use mathlib.Core.Logic.{⊎_elim}
use mathlib.Core.List.Memᴰ
use mathlib.Core.List.{List, [], ◌∷◌, ◌++◌, Memᴰ}
use lib.ListN.{length, length-append}
use Rattle.route_walks.specs.Legal.{NoneTwice}
use Rattle.route_walks.specs.Walks.{words_of}
use Rattle.route_walks.specs.All.{Exactly, Number}

module _ {A : Type 0} where
  pub record Split (x : A) (l : List A) : Type 0 where
    pub front : List A
    pub back : List A
    pub is : l ≡ front ++ (x ∷ back)

  split : (l : List A) (x : A) → Memᴰ x l → Split x l
  split [] x m = absurd (Memᴰ.not-nil m)
  split (y ∷ l) x m =
      ⊎_elim (λ e. record { front = []; back = l; is = ap (λ (z : A). z ∷ l) (sym e) })
      (λ n. let s = split l x n in record { front = y ∷ s.front; back = s.back; is = ap (λ (k : List A). y ∷ k) s.is })
      (Memᴰ.cases_cons m)

  -- what else stands in the list
  pub others : (x y : A) (l : List A) (p : Split x l) → (y ≡ x → ⊥) → Memᴰ y l → Memᴰ y (p.front ++ p.back)
  others x y l p n m =
      ⊎_elim (λ h. Memᴰ.append_left p.back h) (λ h. ⊎_elim (λ e. absurd (n e)) (λ k. Memᴰ.append_right p.front k) (Memᴰ.cases_cons h))
      (Memᴰ.append_cases p.front (subst (λ (k : List A). Memᴰ y k) p.is m))

  -- what the elements weigh together
  abbrev weight : (A → ℕ) → List A → ℕ
  weight g [] = 0
  weight g (x ∷ l) = g x + weight g l

  weight_append : (g : A → ℕ) (a b : List A) → weight g (a ++ b) ≡ weight g a + weight g b
  weight_append g [] b = omega arith
  weight_append g (x ∷ a) b = omega (arith, weight_append g a b)

  no_heavier : (g : A → ℕ) (a b : List A) → NoneTwice a → ((x : A) → Memᴰ x a → Memᴰ x b) → weight g a ≤ weight g b
  unfolding NoneTwice
  no_heavier g [] b d s = omega arith
  no_heavier g (x ∷ a) b d s =
      let p = split b x (s x (Memᴰ.head refl)) in
      let r = no_heavier g a (p.front ++ p.back) d.1 (λ y m. others x y b p (λ e. d.0 (Memᴰ.cast (sym e) m)) (s y (Memᴰ.tail m))) in
      omega (arith, weight_append g p.front p.back, ap (weight g) p.is, weight_append g p.front (x ∷ p.back))

one_weight : (P : List ℕ → Type 0) (g : List ℕ → ℕ) (a b : List (List ℕ)) → Exactly P a → Exactly P b → weight g a ≡ weight g b
one_weight P g a b m n =
    let p = no_heavier g a b m.once (λ x h. n.complete x (m.sound x h)) in
    let q = no_heavier g b a n.once (λ x h. m.complete x (n.sound x h)) in
    omega arith

length_weight : (l : List (List ℕ)) → length l ≡ weight (λ w. 1) l
length_weight [] = refl
length_weight (w ∷ l) = omega (arith, length_weight l)

words_weight : (l : List (List ℕ)) → length (words_of l) ≡ weight (λ w. suc (length w)) l
unfolding words_of
words_weight [] = refl
words_weight (w ∷ l) = omega (arith, length-append w (words_of l), words_weight l)

-- THEOREM: P holds of one number of lists
pub one_number : (P : List ℕ → Type 0) (m n : ℕ) → Number P m → Number P n → m ≡ n
one_number P m n a b =
    omega (arith, a.count, b.count, length_weight a.all, length_weight b.all, one_weight P (λ w. 1) a.all b.all a.exactly b.exactly)

-- THEOREM: the words of the lists of which P holds have one length
pub one_length : (P : List ℕ → Type 0) (a b : List (List ℕ)) → Exactly P a → Exactly P b → length (words_of a) ≡ length (words_of b)
one_length P a b m n = omega (arith, words_weight a, words_weight b, one_weight P (λ w. suc (length w)) a b m n)
