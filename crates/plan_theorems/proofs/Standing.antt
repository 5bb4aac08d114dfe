-- Where a route stands among others and where it is apart from them, as tests and as what they say; the routes that a test picks out of a
-- list, and how many they are.
use Prim.Native.Nat.{ℕ, ◌+◌}
use native.Mathlib.Omega.{arith}
use mathlib.Core.Path.{◌≡◌, refl, sym, ap, ◌∙◌}
use mathlib.Core.Bool.{Bool, true, false, cond, not, ◌||◌, true≢false}
use mathlib.Core.Logic.{◌⊎◌, inl, inr, ⊎_elim, ◌↔◌}
use mathlib.Core.List.Memᴰ
use mathlib.Core.List.{List, [], ◌∷◌, Memᴰ}
use lib.ListN.{length}
use borrow.Author.Tests.{eqb-true, eq-eqb, not-true}
use Rattle.verdict.proofs.Orders.{and-true}
use Rattle.route_walks.specs.Legal.{NoneTwice}
use Rattle.route_walks.specs.All.{Number}
use Rattle.plan_routes.specs.Routes.{same_route, among, starts_at, is_apart, apart}
use Rattle.plan_routes.proofs.Equal.{same_iff}
use Rattle.plan_theorems.specs.Agree.{From}

-- ---- the tests

told_there : (rs : List (List ℕ)) (r : List ℕ) → among rs r ≡ true → Memᴰ r rs
unfolding among
told_there [] r e = absurd (true≢false (sym e))
told_there (q ∷ qs) r e = go (same_route q r) refl e (told_there qs r)
  where
    go : (t : Bool) → same_route q r ≡ t → (t || among qs r) ≡ true → (among qs r ≡ true → Memᴰ r qs) → Memᴰ r (q ∷ qs)
    go true s h rest = Memᴰ.head (sym ((same_iff q r).0 s))
    go false s h rest = Memᴰ.tail (rest h)

there_told : (rs : List (List ℕ)) (r : List ℕ) → Memᴰ r rs → among rs r ≡ true
unfolding among
there_told [] r m = absurd (Memᴰ.not-nil m)
there_told (q ∷ qs) r m = go (Memᴰ.cases_cons m) (there_told qs r)
  where
    either : (t : Bool) → (t || true) ≡ true
    either true = refl
    either false = refl

    go : (r ≡ q) ⊎ Memᴰ r qs → (Memᴰ r qs → among qs r ≡ true) → (same_route q r || among qs r) ≡ true
    go (inl e) rest = rw ((same_iff q r).1 (sym e)) refl
    go (inr n) rest = rw (rest n) (either (same_route q r))

-- THEOREM: a route is told to stand among others exactly where it does
pub among_iff : (rs : List (List ℕ)) (r : List ℕ) → (among rs r ≡ true) ↔ Memᴰ r rs
among_iff rs r = (told_there rs r, there_told rs r)

-- THEOREM: a route is told to be from a start exactly where it is
pub from_iff : (start : ℕ) (r : List ℕ) → (starts_at start r ≡ true) ↔ From start r
unfolding starts_at
from_iff start r = (there r, λ h. rw h.is (eq-eqb start start refl))
  where
    there : (r : List ℕ) → starts_at start r ≡ true → From start r
    there [] e = absurd (true≢false (sym e))
    there (x ∷ r) e = record { rest = r; is = ap (λ (y : ℕ). y ∷ r) (eqb-true x start e) }

-- THEOREM: a route is told to be apart from others exactly where it is from the start and does not stand among them
pub apart_iff : (r : List ℕ) (start : ℕ) (others : List (List ℕ)) → (is_apart r start others ≡ true) ↔ ((starts_at start r ≡ true) × (¬ Memᴰ r others))
apart_iff r start others = (
  λ e. let b = and-true (starts_at start r) (not (among others r)) e in (b.0, λ m. true≢false (sym (there_told others r m) ∙ not-true (among others r) b.1)),
  λ h. rw h.0 (go (among others r) refl h.1),
)
  where
    go : (t : Bool) → among others r ≡ t → ¬ Memᴰ r others → not t ≡ true
    go true e n = absurd (n (told_there others r e))
    go false e n = refl

-- ---- what a test picks

unfoldable pub picked : (List ℕ → Bool) → List (List ℕ) → List (List ℕ)
picked t [] = []
picked t (r ∷ rs) = cond (t r) (r ∷ picked t rs) (picked t rs)

module _ (t : List ℕ → Bool) where
  picked_cases : (rs : List (List ℕ)) (w : List ℕ) → Memᴰ w (picked t rs) → Memᴰ w rs × (t w ≡ true)
  unfolding picked
  picked_cases [] w m = absurd (Memᴰ.not-nil m)
  picked_cases (r ∷ rs) w m = go (t r) refl m (picked_cases rs w)
    where
      go : (b : Bool) → t r ≡ b → Memᴰ w (cond b (r ∷ picked t rs) (picked t rs)) → (Memᴰ w (picked t rs) → Memᴰ w rs × (t w ≡ true)) → Memᴰ w (r ∷ rs) × (t w ≡ true)
      go true e h rest = ⊎_elim (λ q. (Memᴰ.head q, ap t q ∙ e)) (λ n. let k = rest n in (Memᴰ.tail k.0, k.1)) (Memᴰ.cases_cons h)
      go false e h rest = let k = rest h in (Memᴰ.tail k.0, k.1)

  picked_in : (rs : List (List ℕ)) (w : List ℕ) → Memᴰ w rs → t w ≡ true → Memᴰ w (picked t rs)
  unfolding picked
  picked_in [] w m e = absurd (Memᴰ.not-nil m)
  picked_in (r ∷ rs) w m e = go (t r) refl (Memᴰ.cases_cons m) (λ n. picked_in rs w n e)
    where
      go : (b : Bool) → t r ≡ b → (w ≡ r) ⊎ Memᴰ w rs → (Memᴰ w rs → Memᴰ w (picked t rs)) → Memᴰ w (cond b (r ∷ picked t rs) (picked t rs))
      go true q c rest = ⊎_elim (λ h. Memᴰ.head h) (λ h. Memᴰ.tail (rest h)) c
      go false q c rest = ⊎_elim (λ h. absurd (true≢false (sym e ∙ ap t h ∙ q))) rest c

  picked_once : (rs : List (List ℕ)) → NoneTwice rs → NoneTwice (picked t rs)
  unfolding picked NoneTwice
  picked_once [] d = tt
  picked_once (r ∷ rs) d = go (t r) (picked_once rs d.1)
    where
      go : (b : Bool) → NoneTwice (picked t rs) → NoneTwice (cond b (r ∷ picked t rs) (picked t rs))
      go true rest = ((λ m. d.0 (picked_cases rs r m).0), rest)
      go false rest = rest

  -- the number of those picked is that of those in the list of which the test holds, if P says this of them
  pub picked_number : (rs : List (List ℕ)) (P : List ℕ → Type 0) → NoneTwice rs → ((w : List ℕ) → (Memᴰ w rs × (t w ≡ true)) ↔ P w) → Number P (length (picked t rs))
  picked_number rs P d says = record {
    all = picked t rs;
    exactly = record {
      sound = λ w m. (says w).0 (picked_cases rs w m);
      complete = λ w p. let k = (says w).1 p in picked_in rs w k.0 k.1;
      once = picked_once rs d;
    };
    count = refl;
  }

  -- none is picked exactly where the test holds of none
  pub none_picked : (rs : List (List ℕ)) → (length (picked t rs) ≡ 0) ↔ ((w : List ℕ) → Memᴰ w rs → t w ≡ true → ⊥)
  none_picked rs = (λ e w m h. no_element (picked t rs) w e (picked_in rs w m h), λ n. empty (picked t rs) (λ w m. let k = picked_cases rs w m in n w k.0 k.1))
    where
      no_element : (l : List (List ℕ)) (w : List ℕ) → length l ≡ 0 → Memᴰ w l → ⊥
      no_element [] w e m = Memᴰ.not-nil m
      no_element (x ∷ l) w e m = omega arith

      empty : (l : List (List ℕ)) → ((w : List ℕ) → Memᴰ w l → ⊥) → length l ≡ 0
      empty [] n = refl
      empty (x ∷ l) n = absurd (n x (Memᴰ.head refl))

  -- those that are picked and those that are not are all
  pub picked_rest : (rs : List (List ℕ)) → length (picked t rs) + length (picked (λ r. not (t r)) rs) ≡ length rs
  unfolding picked
  picked_rest [] = refl
  picked_rest (r ∷ rs) = go (t r) (picked_rest rs)
    where
      go : (b : Bool) → length (picked t rs) + length (picked (λ (q : List ℕ). not (t q)) rs) ≡ length rs
          → length (cond b (r ∷ picked t rs) (picked t rs)) + length (cond (not b) (r ∷ picked (λ (q : List ℕ). not (t q)) rs) (picked (λ (q : List ℕ). not (t q)) rs)) ≡ length (r ∷ rs)
      go true e = omega arith
      go false e = omega arith

-- those that are apart are counted
pub apart_picked : (rs : List (List ℕ)) (start : ℕ) (others : List (List ℕ)) → apart rs start others ≡ length (picked (λ r. is_apart r start others) rs)
unfolding apart picked
apart_picked [] start others = refl
apart_picked (r ∷ rs) start others = go (is_apart r start others) (apart_picked rs start others)
  where
    go : (b : Bool) → apart rs start others ≡ length (picked (λ (q : List ℕ). is_apart q start others) rs)
        → cond b 1 0 + apart rs start others ≡ length (cond b (r ∷ picked (λ (q : List ℕ). is_apart q start others) rs) (picked (λ (q : List ℕ). is_apart q start others) rs))
    go true e = omega arith
    go false e = omega arith

-- THEOREM: none is apart exactly where each that is from the start stands among the others
pub none_apart : (rs : List (List ℕ)) (start : ℕ) (others : List (List ℕ)) → (apart rs start others ≡ 0) ↔ ((w : List ℕ) → Memᴰ w rs → starts_at start w ≡ true → Memᴰ w others)
none_apart rs start others =
    let same = apart_picked rs start others in
    let none = none_picked (λ r. is_apart r start others) rs in (
      λ e w m s. by_test w s (among others w) refl (none.0 (sym same ∙ e) w m),
      λ h. same ∙ none.1 (λ w m a. let k = (apart_iff w start others).0 a in k.1 (h w m k.0)),
    )
  where
    by_test : (w : List ℕ) → starts_at start w ≡ true → (t : Bool) → among others w ≡ t → (is_apart w start others ≡ true → ⊥) → Memᴰ w others
    by_test w s true e n = told_there others w e
    by_test w s false e n = absurd (n (rw (s, e) refl))
