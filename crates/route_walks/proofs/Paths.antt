-- Membership in a path, tested and stated.
use Prim.Native.Nat.{ℕ, ◌+◌, ◌<◌}
use native.Mathlib.Numerals.{add-one}
use mathlib.Core.Path.{◌≡◌, refl, sym, ap, subst, ◌∙◌}
use mathlib.Core.Bool.{Bool, true, false, true≢false, ◌||◌}
use mathlib.Core.Logic.{⊎_elim}
use mathlib.Core.List.Memᴰ
use mathlib.Core.List.{List, [], ◌∷◌, ◌++◌, Memᴰ}
use lib.Dec.{eqb}
use borrow.Author.Tests.{eq-eqb, ne_eqb, eqb-true, eqb-false}
use lib.ListN.{length, get_or, take}
use lib.Seq.{take-suc}
use Rattle.verdict.proofs.Orders.{neither}
use Rattle.route_walks.specs.Legal.{NoneTwice}
use Rattle.route_walks.specs.Walks.{has}

-- standing in a list is tested as it is stated
pub mem_has : (l : List ℕ) (x : ℕ) → Memᴰ x l → has l x ≡ true
unfolding has
mem_has [] x m = absurd (Memᴰ.not-nil m)
mem_has (y ∷ ys) x m = ⊎_elim (λ e. rw (eq-eqb y x (sym e)) refl) (λ h. rw (mem_has ys x h) (or-true (eqb y x))) (Memᴰ.cases_cons m)
  where
    or-true : (b : Bool) → (b || true) ≡ true
    or-true true = refl
    or-true false = refl

pub has_mem : (l : List ℕ) (x : ℕ) → has l x ≡ true → Memᴰ x l
unfolding has
has_mem [] x e = absurd (true≢false (sym e))
has_mem (y ∷ ys) x e = go (eqb y x) refl e (λ h. has_mem ys x h)
  where
    go : (b : Bool) → eqb y x ≡ b → (b || has ys x) ≡ true → (has ys x ≡ true → Memᴰ x ys) → Memᴰ x (y ∷ ys)
    go true q h rec = Memᴰ.head (sym (eqb-true y x q))
    go false q h rec = Memᴰ.tail (rec h)

pub not_has : (l : List ℕ) (x : ℕ) → (¬ Memᴰ x l) → has l x ≡ false
not_has l x n = go (has l x) refl
  where
    go : (b : Bool) → has l x ≡ b → b ≡ false
    go true e = absurd (n (has_mem l x e))
    go false e = refl

pub has_not : (l : List ℕ) (x : ℕ) → has l x ≡ false → ¬ Memᴰ x l
has_not l x e m = true≢false (sym (mem_has l x m) ∙ e)

-- x stands in a list with one element more where it stands in the list or is that element
pub has_more : (l : List ℕ) (y x : ℕ) → has (l ++ (y ∷ [])) x ≡ (has l x || eqb y x)
unfolding has
has_more [] y x = or-none (eqb y x)
  where
    or-none : (b : Bool) → (b || false) ≡ b
    or-none true = refl
    or-none false = refl
has_more (a ∷ l) y x = ap (λ (b : Bool). eqb a x || b) (has_more l y x) ∙ or_both (eqb a x)
  where
    or_both : (b : Bool) → (b || (has l x || eqb y x)) ≡ ((b || has l x) || eqb y x)
    or_both true = refl
    or_both false = refl

-- one turn of the loop of `stands_in`
pub looked_more : (path : List ℕ) (i x : ℕ) (found : Bool) → i < length path → found ≡ has (take i path) x → (found || eqb (get_or path i 0) x) ≡ has (take (i + 1) path) x
looked_more path i x found h e = ap (λ (b : Bool). b || eqb (get_or path i 0) x) e ∙ sym (rw (add-one i, take-suc path i 0 h) (has_more (take i path) (get_or path i 0) x))

-- x stands not in a list with one element more
pub has_snoc : (l : List ℕ) (y x : ℕ) → has l x ≡ false → (y ≡ x → ⊥) → has (l ++ (y ∷ [])) x ≡ false
unfolding has
has_snoc [] y x h n = rw (ne_eqb y x n) refl
has_snoc (a ∷ l) y x h n = let o = neither (eqb a x) (has l x) h in rw o.0 (has_snoc l y x o.1 n)

snoc_has : (l : List ℕ) (y x : ℕ) → has (l ++ (y ∷ [])) x ≡ false → (has l x ≡ false) × (¬ (y ≡ x))
unfolding has
snoc_has [] y x e = (refl, eqb-false y x (neither (eqb y x) false e).0)
snoc_has (a ∷ l) y x e =
    let o = neither (eqb a x) (has (l ++ (y ∷ [])) x) e in
    let r = snoc_has l y x o.1 in
    (rw o.0 r.0, r.1)

-- each of w stands neither in p nor before itself
abbrev pub Fresh : List ℕ → List ℕ → Type 0
Fresh p [] = Unit {0}
Fresh p (x ∷ w) = (has p x ≡ false) × Fresh (p ++ (x ∷ [])) w

pub fresh_distinct : (p w : List ℕ) → Fresh p w → NoneTwice w × ((y : ℕ) → Memᴰ y w → has p y ≡ false)
unfolding NoneTwice
fresh_distinct p [] f = (tt, λ y m. absurd (Memᴰ.not-nil m))
fresh_distinct p (x ∷ w) f =
    let r = fresh_distinct (p ++ (x ∷ [])) w f.1 in (
      (λ m. (snoc_has p x x (r.1 x m)).1 refl, r.0),
      λ y m. ⊎_elim (λ e. subst (λ (z : ℕ). has p z ≡ false) (sym e) f.0) (λ n. (snoc_has p x y (r.1 y n)).0) (Memᴰ.cases_cons m),
    )

pub distinct_fresh : (p w : List ℕ) → NoneTwice w → ((y : ℕ) → Memᴰ y w → has p y ≡ false) → Fresh p w
unfolding NoneTwice
distinct_fresh p [] d h = tt
distinct_fresh p (x ∷ w) d h = (
  h x (Memᴰ.head refl),
  distinct_fresh (p ++ (x ∷ [])) w d.1 (λ y m. has_snoc p x y (h y (Memᴰ.tail m)) (λ e. d.0 (Memᴰ.cast e m))),
)
