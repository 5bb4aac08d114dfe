-- What the list of walks holds, by the tests that make it.
use Prim.Native.Nat.{ℕ, zero, suc, ◌≤◌}
use native.Mathlib.Nat.{not-suc-le-zero, le_of_suc-le-suc}
use native.Mathlib.Omega.{arith}
use mathlib.Core.Path.{◌≡◌, refl, subst, ◌∙◌}
use mathlib.Core.Bool.{Bool, true, false, cond, ◌||◌}
use mathlib.Core.Logic.{⊎_elim}
use mathlib.Core.List.Memᴰ
use mathlib.Core.List.{List, [], ◌∷◌, ◌++◌, append_assoc, Memᴰ}
use lib.ListN.{length}
use lib.Dec.{eqb}
use borrow.Author.Tests.{ne_eqb, eqb-false}
use Rattle.route_graph.specs.declared.Object.{Object}
use Rattle.route_graph.specs.Ways.{exits_of}
use Rattle.route_walks.specs.Walks.{has, each, walks}
use Rattle.verdict.proofs.Orders.{neither}
use Rattle.route_walks.proofs.Paths.{Fresh}

pub each_cases : (f : ℕ → List (List ℕ)) (xs w : List ℕ) → Memᴰ w (each f xs) → (x : ℕ) × Memᴰ x xs × Memᴰ w (f x)
unfolding each
each_cases f [] w m = absurd (Memᴰ.not-nil m)
each_cases f (x ∷ xs) w m = ⊎_elim (λ h. (x, Memᴰ.head refl, h)) (λ h. let r = each_cases f xs w h in (r.0, Memᴰ.tail r.1, r.2)) (Memᴰ.append_cases (f x) m)

each_in : (f : ℕ → List (List ℕ)) (xs : List ℕ) (x : ℕ) (w : List ℕ) → Memᴰ x xs → Memᴰ w (f x) → Memᴰ w (each f xs)
unfolding each
each_in f [] x w m h = absurd (Memᴰ.not-nil m)
each_in f (y ∷ ys) x w m h = ⊎_elim (λ e. Memᴰ.append_left (each f ys) (subst (λ (z : ℕ). Memᴰ w (f z)) e h)) (λ n. Memᴰ.append_right (f y) (each_in f ys x w n h)) (Memᴰ.cases_cons m)

-- each of the list after the first is an exit of the one before it, as that was entered, and not 0; the first was entered from `from`
unfoldable pub Traced : (ℕ → Object) → ℕ → List ℕ → Type 0
Traced v from [] = Unit {0}
Traced v from (a ∷ []) = Unit {0}
Traced v from (a ∷ b ∷ w) = Memᴰ b (exits_of (v a) from) × (¬ (b ≡ 0)) × Traced v a (b ∷ w)

-- what goes on from p by `to`: to, and then `after`
pub record Goes (v : ℕ → Object) (k : ℕ) (p : List ℕ) (from to : ℕ) (after : List ℕ) : Type 0 where
  pub some : ¬ (to ≡ 0)
  pub traced : Traced v from (to ∷ after)
  pub fresh : Fresh p (to ∷ after)
  pub short : length (to ∷ after) ≤ k

pub record Found (v : ℕ → Object) (k : ℕ) (p : List ℕ) (from to : ℕ) (w : List ℕ) : Type 0 where
  pub after : List ℕ
  pub is : w ≡ p ++ (to ∷ after)
  pub goes : Goes v k p from to after

module _ (v : ℕ → Object) where
  pub found : (k : ℕ) (p : List ℕ) (from to : ℕ) (w : List ℕ) → Memᴰ w (walks v k p from to) → Found v k p from to w
  unfolding walks Traced
  found zero p from to w m = absurd (Memᴰ.not-nil m)
  found (suc k) p from to w m = go (eqb to 0 || has p to) refl m (λ x h. found k (p ++ (to ∷ [])) to x w h)
    where
      go : (b : Bool) → (eqb to 0 || has p to) ≡ b
          → Memᴰ w (cond b [] ((p ++ (to ∷ [])) ∷ each (λ x. walks v k (p ++ (to ∷ [])) to x) (exits_of (v to) from)))
          → ((x : ℕ) → Memᴰ w (walks v k (p ++ (to ∷ [])) to x) → Found v k (p ++ (to ∷ [])) to x w) → Found v (suc k) p from to w
      go true e h rec = absurd (Memᴰ.not-nil h)
      go false e h rec =
          let o = neither (eqb to 0) (has p to) e in
          let n = eqb-false to 0 o.0 in
          ⊎_elim (λ q. record { after = []; is = q; goes = record { some = n; traced = tt; fresh = (o.1, tt); short = omega arith } })
          (λ q.
          let r = each_cases (λ x. walks v k (p ++ (to ∷ [])) to x) (exits_of (v to) from) w q in
          let g = rec r.0 r.2 in
          record {
            after = r.0 ∷ g.after;
            is = g.is ∙ append_assoc p (to ∷ []) (r.0 ∷ g.after);
            goes = record { some = n; traced = (r.1, g.goes.some, g.goes.traced); fresh = (o.1, g.goes.fresh); short = let s = g.goes.short in omega arith };
          })
          (Memᴰ.cases_cons h)

  opened : (k : ℕ) (p : List ℕ) (from to : ℕ) (w : List ℕ) → (¬ (to ≡ 0)) → has p to ≡ false
      → Memᴰ w ((p ++ (to ∷ [])) ∷ each (λ x. walks v k (p ++ (to ∷ [])) to x) (exits_of (v to) from)) → Memᴰ w (walks v (suc k) p from to)
  unfolding walks
  opened k p from to w n h m = rw (ne_eqb to 0 n, h, walks) m

  pub listed : (k : ℕ) (p : List ℕ) (from to : ℕ) (after : List ℕ) → Goes v k p from to after → Memᴰ (p ++ (to ∷ after)) (walks v k p from to)
  unfolding Traced
  listed zero p from to after g = absurd (not-suc-le-zero g.short)
  listed (suc k) p from to [] g = opened k p from to _ g.some g.fresh.0 (Memᴰ.head refl)
  listed (suc k) p from to (x ∷ after) g =
      let next : Goes v k (p ++ (to ∷ [])) to x after = record { some = g.traced.1; traced = g.traced.2; fresh = g.fresh.1; short = le_of_suc-le-suc g.short } in
      opened k p from to _ g.some g.fresh.0 (Memᴰ.tail (each_in (λ x. walks v k (p ++ (to ∷ [])) to x) (exits_of (v to) from) x _ g.traced.0
      (subst (λ (l : List ℕ). Memᴰ l (walks v k (p ++ (to ∷ [])) to x)) (append_assoc p (to ∷ []) (x ∷ after)) (listed k (p ++ (to ∷ [])) to x after next))))
