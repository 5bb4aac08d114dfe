-- Two routes are the same exactly where they are one list.
use Prim.Native.Nat.{ℕ}
use mathlib.Core.Path.{◌≡◌, refl, sym, ap, ap₂, ◌∙◌}
use mathlib.Core.Bool.{Bool, true, false, ◌&&◌, true≢false}
use mathlib.Core.Logic.{◌↔◌}
use mathlib.Core.List.{List, [], ◌∷◌, reverse}
use lib.Dec.{eqb}
use borrow.Author.Tests.{eqb-true, eq-eqb}
use Rattle.std.specs.Bool.{Decides}
use Rattle.std.proofs.lemmas.List.{reverse-reverse}
use Rattle.plan_routes.specs.Routes.{same_route}

same_equal : (a b : List ℕ) → same_route a b ≡ true → a ≡ b
unfolding same_route
same_equal [] [] e = refl
same_equal [] (y ∷ b) e = absurd (true≢false (sym e))
same_equal (x ∷ a) [] e = absurd (true≢false (sym e))
same_equal (x ∷ a) (y ∷ b) e = go (eqb x y) refl e (same_equal a b)
  where
    go : (t : Bool) → eqb x y ≡ t → (t && same_route a b) ≡ true → (same_route a b ≡ true → a ≡ b) → x ∷ a ≡ y ∷ b
    go true q h rest = ap₂ ◌∷◌ (eqb-true x y q) (rest h)
    go false q h rest = absurd (true≢false (sym h))

same_itself : (a : List ℕ) → same_route a a ≡ true
unfolding same_route
same_itself [] = refl
same_itself (x ∷ a) = rw (eq-eqb x x refl) (same_itself a)

-- THEOREM: two routes are the same exactly where they are one list
pub same_iff : (a b : List ℕ) → (same_route a b ≡ true) ↔ (a ≡ b)
same_iff a b = (same_equal a b, λ e. rw e (same_itself b))

pub same_not : (a b : List ℕ) → ¬ (a ≡ b) → same_route a b ≡ false
same_not a b n = go (same_route a b) refl
  where
    go : (t : Bool) → same_route a b ≡ t → t ≡ false
    go true e = absurd (n (same_equal a b e))
    go false e = refl

-- what a comparison decides that goes from the ends
pub same_reversed : (a b : List ℕ) (t : Bool) → Decides t (reverse a ≡ reverse b) → t ≡ same_route a b
same_reversed a b t d = by_test t d
  where
    by_test : (t : Bool) → Decides t (reverse a ≡ reverse b) → t ≡ same_route a b
    by_test true h = sym ((same_iff a b).1 (sym (reverse-reverse a) ∙ ap reverse (h.0 refl) ∙ reverse-reverse b))
    by_test false h = sym (same_not a b (λ e. true≢false (sym (h.1 (ap reverse e)))))
