-- Every partial walk that is listed is one, and every partial walk is listed; the same of routes.
use Prim.Native.Nat.{ℕ, zero, suc, ◌≤◌}
use native.Mathlib.Nat.{not-suc-le-zero, le_of_suc-le-suc}
use native.Mathlib.Omega.{arith}
use mathlib.Core.Path.{◌≡◌, refl, sym, ap, subst, ◌∙◌}
use mathlib.Core.Bool.{Bool, true, false, cond, true≢false}
use mathlib.Core.Logic.{◌⊎◌, ⊎_elim}
use mathlib.Core.List.Memᴰ
use mathlib.Core.List.{List, [], ◌∷◌, Memᴰ}
use lib.ListN.{length}
use lib.Dec.{eqb, ltb}
use borrow.Author.Tests.{ne_eqb, eqb-false, ltb-true, lt-ltb}
use Rattle.route_graph.specs.declared.Object.{Object}
use Rattle.route_graph.specs.Objects.{edge_link, is_boundary}
use Rattle.route_graph.specs.Links.{Joined}
use Rattle.route_walks.specs.Legal.{FromStart, NoneTwice, last_object, Walk, Route}
use Rattle.route_walks.specs.Walks.{has, walks, all_walks, is_route, routes_among, all_routes}
use Rattle.verdict.proofs.Orders.{and-true, neither}
use Rattle.route_walks.proofs.Paths.{fresh_distinct, distinct_fresh}
use Rattle.route_walks.proofs.Listed.{Goes, found, listed}
use Rattle.route_walks.proofs.Legal.{enters_first, traced_steps, steps_traced}

-- a path of the start alone
alone : (start y : ℕ) → ¬ (start ≡ y) → has (start ∷ []) y ≡ false
unfolding has
alone start y n = rw (ne_eqb start y n) refl

not_there : (start : ℕ) → has (start ∷ []) start ≡ false → ⊥
unfolding has
not_there start e = eqb-false start start (neither (eqb start start) false e).0 refl

module _ (v : ℕ → Object) where
  pub route_cases : (ws : List (List ℕ)) (w : List ℕ) → Memᴰ w (routes_among v ws) → Memᴰ w ws × (is_route v w ≡ true)
  unfolding routes_among
  route_cases [] w m = absurd (Memᴰ.not-nil m)
  route_cases (x ∷ ws) w m = go (is_route v x) refl m (λ h. route_cases ws w h)
    where
      go : (b : Bool) → is_route v x ≡ b → Memᴰ w (cond b (x ∷ routes_among v ws) (routes_among v ws))
          → (Memᴰ w (routes_among v ws) → Memᴰ w ws × (is_route v w ≡ true)) → Memᴰ w (x ∷ ws) × (is_route v w ≡ true)
      go true e h rec = ⊎_elim (λ q. (Memᴰ.head q, ap (is_route v) q ∙ e)) (λ n. let r = rec n in (Memᴰ.tail r.0, r.1)) (Memᴰ.cases_cons h)
      go false e h rec = let r = rec h in (Memᴰ.tail r.0, r.1)

  route_in : (ws : List (List ℕ)) (w : List ℕ) → Memᴰ w ws → is_route v w ≡ true → Memᴰ w (routes_among v ws)
  unfolding routes_among
  route_in [] w m e = absurd (Memᴰ.not-nil m)
  route_in (x ∷ ws) w m e = go (is_route v x) refl (λ h. route_in ws w h e) (Memᴰ.cases_cons m)
    where
      go : (b : Bool) → is_route v x ≡ b → (Memᴰ w ws → Memᴰ w (routes_among v ws)) → (w ≡ x) ⊎ Memᴰ w ws → Memᴰ w (cond b (x ∷ routes_among v ws) (routes_among v ws))
      go true q rec c = ⊎_elim (λ h. Memᴰ.head h) (λ h. Memᴰ.tail (rec h)) c
      go false q rec c = ⊎_elim (λ h. absurd (true≢false (sym e ∙ ap (is_route v) h ∙ q))) rec c

module _ (v : ℕ → Object) (Good : ℕ → Type 0) (joined : Joined v Good) (start limit : ℕ) (good : Good start) where
  -- THEOREM: what is listed is a partial walk
  pub walks_sound : (w : List ℕ) → Memᴰ w (all_walks v start limit) → Walk v start limit w
  unfolding all_walks FromStart NoneTwice
  walks_sound w m = go limit m
    where
      go : (n : ℕ) → Memᴰ w (all_walks v start n) → Walk v start n w
      go zero m = absurd (Memᴰ.not-nil m)
      go (suc k) m =
          ⊎_elim
          (λ e. record { rest = []; is = e; led = tt; once = subst (λ (l : List ℕ). NoneTwice l) (sym e) ((λ n. Memᴰ.not-nil n), tt); short = rw e (omega arith) })
          (λ h.
          let g = found v k (start ∷ []) start (edge_link (v start)) w h in
          let d = fresh_distinct (start ∷ []) (edge_link (v start) ∷ g.after) g.goes.fresh in
          let e = enters_first v Good joined start (edge_link (v start)) good refl g.goes.some in
          record {
            rest = edge_link (v start) ∷ g.after;
            is = g.is;
            led = (refl, g.goes.some, traced_steps v Good joined g.after start (edge_link (v start)) e g.goes.traced);
            once = subst (λ (l : List ℕ). NoneTwice l) (sym g.is) ((λ n. not_there start (d.1 start n)), d.0);
            short = rw g.is (let s = g.goes.short in omega arith);
          })
          (Memᴰ.cases_cons m)

  -- THEOREM: a partial walk is listed
  pub walks_complete : (w : List ℕ) → Walk v start limit w → Memᴰ w (all_walks v start limit)
  unfolding all_walks FromStart NoneTwice
  walks_complete w h = subst (λ (l : List ℕ). Memᴰ l (all_walks v start limit)) (sym h.is) (go limit h.rest h.led (rw h.is at h.once) (rw h.is at h.short))
    where
      go : (n : ℕ) (r : List ℕ) → FromStart v start r → NoneTwice (start ∷ r) → length (start ∷ r) ≤ n → Memᴰ (start ∷ r) (all_walks v start n)
      go zero r f d l = absurd (not-suc-le-zero l)
      go (suc k) [] f d l = Memᴰ.head refl
      go (suc k) (b ∷ w') f d l =
          let e = enters_first v Good joined start b good f.0 f.1 in
          let g : Goes v k (start ∷ []) start b w' = record {
            some = f.1;
            traced = steps_traced v Good joined w' start b e f.2;
            fresh = distinct_fresh (start ∷ []) (b ∷ w') d.1 (λ y m. alone start y (λ q. d.0 (Memᴰ.cast q m)));
            short = le_of_suc-le-suc l;
          } in
          Memᴰ.tail (subst (λ (x : ℕ). Memᴰ (start ∷ b ∷ w') (walks v k (start ∷ []) start x)) f.0 (listed v k (start ∷ []) start b w' g))

  -- THEOREM: what is listed is a route
  pub routes_sound : (w : List ℕ) → Memᴰ w (all_routes v start limit) → Route v start limit w
  unfolding is_route
  routes_sound w m =
      let r = route_cases v (all_walks v start limit) w m in
      let a = and-true (ltb 1 (length w)) (is_boundary (v (last_object w))) r.1 in
      record { walk = walks_sound w r.0; two = ltb-true 1 (length w) a.0; ends = a.1 }

  -- THEOREM: a route is listed
  pub routes_complete : (w : List ℕ) → Route v start limit w → Memᴰ w (all_routes v start limit)
  unfolding is_route
  routes_complete w h = route_in v (all_walks v start limit) w (walks_complete w h.walk) (rw (lt-ltb 1 (length w) h.two, h.ends, is_route) refl)
