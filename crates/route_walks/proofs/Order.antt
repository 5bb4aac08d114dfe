-- The order of the list, and that nothing stands in it twice.
use Prim.Native.Nat.{ℕ, zero, suc}
use native.Mathlib.Omega.{arith}
use mathlib.Core.Path.{◌≡◌, refl, sym, ap, subst, ◌∙◌}
use mathlib.Core.Bool.{Bool, true, false, cond, ◌||◌}
use mathlib.Core.Logic.{◌⊎◌, inl, inr, ⊎_elim}
use mathlib.Core.List.Memᴰ
use mathlib.Core.List.{List, [], ◌∷◌, ◌++◌, append_assoc, append-nil, append_cancel_left, head-eq_of_cons-eq, tail-eq_of_cons-eq, Memᴰ}
use lib.ListN.{length, length-append}
use lib.Dec.{eqb}
use Rattle.route_graph.specs.declared.TurnoutLinks.{TurnoutLinks}
use Rattle.route_graph.specs.declared.Object.{Object}
use Rattle.route_graph.specs.declared.Object.TheVariants.{Boundary, Plain, Turnout, Nothing}
use Rattle.route_graph.specs.Objects.{links_of, edge_link, is_boundary}
use Rattle.route_graph.specs.Ways.{onward_of, legs_of, exits_of}
use Rattle.route_graph.specs.Links.{Single, Joined}
use Rattle.route_graph.proofs.Ways.{not_left}
use Rattle.route_walks.specs.Legal.{Follows, FromStart, NoneTwice, last_object, Walk, Route, PartAtTurnout}
use Rattle.route_walks.specs.Walks.{has, each, walks, all_walks, is_route, routes_among, all_routes}
use Rattle.route_walks.specs.All.{Ordered, Exactly, Number, AllRoutes}
use Rattle.route_walks.proofs.Listed.{each_cases, Found, found}
use Rattle.route_walks.proofs.Legal.{walk_good}
use Rattle.route_walks.proofs.Sound.{route_cases, walks_sound, walks_complete, routes_sound, routes_complete}

-- b goes on from a
pub record Extends (a b : List ℕ) : Type 0 where
  pub x : ℕ
  pub after : List ℕ
  pub is : b ≡ a ++ (x ∷ after)

module _ {A : Type 0} (R : A → A → Type 0) where
  ordered_append : (a b : List A) → Ordered R a → Ordered R b → ((x y : A) → Memᴰ x a → Memᴰ y b → R x y) → Ordered R (a ++ b)
  unfolding Ordered
  ordered_append [] b p q c = q
  ordered_append (x ∷ a) b p q c = (
    λ y m. ⊎_elim (λ h. p.0 y h) (λ h. c x y (Memᴰ.head refl) h) (Memᴰ.append_cases a m),
    ordered_append a b p.1 q (λ u y h k. c u y (Memᴰ.tail h) k),
  )

  ordered_distinct : (l : List A) → Ordered R l → ((a : A) → Memᴰ a l → R a a → ⊥) → NoneTwice l
  unfolding Ordered NoneTwice
  ordered_distinct [] o n = tt
  ordered_distinct (a ∷ l) o n = ((λ m. n a (Memᴰ.head refl) (o.0 a m)), ordered_distinct l o.1 (λ x m. n x (Memᴰ.tail m)))

  -- of a list that is ordered by R, and on whose elements R says Q
  ordered_map : (Q : A → A → Type 0) (l : List A) → Ordered R l → ((a b : A) → Memᴰ a l → Memᴰ b l → R a b → Q a b) → Ordered Q l
  unfolding Ordered
  ordered_map Q [] o f = tt
  ordered_map Q (a ∷ l) o f = ((λ b m. f a b (Memᴰ.head refl) (Memᴰ.tail m) (o.0 b m)), ordered_map Q l o.1 (λ x y h k. f x y (Memᴰ.tail h) (Memᴰ.tail k)))

module _ (v : ℕ → Object) where
  -- a is a beginning of b, or they part at a turnout, a by normal
  abbrev pub Before : List ℕ → List ℕ → Type 0
  Before a b = Extends a b ⊎ PartAtTurnout v a b

  each_ordered : (f : ℕ → List (List ℕ)) (from to : ℕ) → ((x : ℕ) → Ordered Before (f x))
      → ((t : TurnoutLinks) → v to ≡ Turnout t → (x y : List ℕ) → Memᴰ x (f t.normal) → Memᴰ y (f t.reverse) → Before x y)
      → Ordered Before (each f (exits_of (v to) from))
  unfolding exits_of legs_of each Ordered
  each_ordered f from to o c = go (v to) refl
    where
      one : (x : ℕ) → Ordered Before (f x ++ [])
      one x = subst (λ (l : List (List ℕ)). Ordered Before l) (sym (append-nil (f x))) (o x)

      legs : (t : TurnoutLinks) → v to ≡ Turnout t → (d : Bool) → Ordered Before (each f (cond d (t.normal ∷ t.reverse ∷ []) (t.front ∷ [])))
      legs t e true =
          ordered_append Before (f t.normal) (f t.reverse ++ []) (o t.normal) (one t.reverse)
          (λ x y h k. c t e x y h (subst (λ (l : List (List ℕ)). Memᴰ y l) (append-nil (f t.reverse)) k))
      legs t e false = one t.front

      go : (b : Object) → v to ≡ b → Ordered Before (each f (exits_of b from))
      go (Boundary link) e = tt
      go (Plain p) e = one (onward_of p from)
      go (Turnout t) e = legs t e (eqb t.front from)
      go Nothing e = tt

  walks_ordered : (k : ℕ) (p : List ℕ) (from to : ℕ) → Ordered Before (walks v k p from to)
  unfolding walks Ordered
  walks_ordered zero p from to = tt
  walks_ordered (suc k) p from to = go (eqb to 0 || has p to) (each_ordered (λ x. walks v k (p ++ (to ∷ [])) to x) from to (λ x. walks_ordered k (p ++ (to ∷ [])) to x) parting)
    where
      at_turn : (z : ℕ) (w : List ℕ) → Found v k (p ++ (to ∷ [])) to z w → (a : List ℕ) × (w ≡ p ++ (to ∷ z ∷ a))
      at_turn z w g = (g.after, g.is ∙ append_assoc p (to ∷ []) (z ∷ g.after))

      parting : (t : TurnoutLinks) → v to ≡ Turnout t → (x y : List ℕ) → Memᴰ x (walks v k (p ++ (to ∷ [])) to t.normal) → Memᴰ y (walks v k (p ++ (to ∷ [])) to t.reverse) → Before x y
      parting t e x y h j =
          let a = at_turn t.normal x (found v k (p ++ (to ∷ [])) to t.normal x h) in
          let b = at_turn t.reverse y (found v k (p ++ (to ∷ [])) to t.reverse y j) in
          inr (record { same = p; at = to; links = t; turnout = e; after = a.0; after' = b.0; by_normal = a.1; by_reverse = b.1 })

      go : (b : Bool) → Ordered Before (each (λ x. walks v k (p ++ (to ∷ [])) to x) (exits_of (v to) from))
          → Ordered Before (cond b [] ((p ++ (to ∷ [])) ∷ each (λ x. walks v k (p ++ (to ∷ [])) to x) (exits_of (v to) from)))
      go true o = tt
      go false o = (
        (λ w m.
            let r = each_cases (λ x. walks v k (p ++ (to ∷ [])) to x) (exits_of (v to) from) w m in
            let g = found v k (p ++ (to ∷ [])) to r.0 w r.2 in
            inl (record { x = r.0; after = g.after; is = g.is })),
        o,
      )

  -- THEOREM: of two walks in the list, the later goes on from the earlier, or they part at a turnout, which the earlier leaves by normal
  pub all_ordered : (start limit : ℕ) → Ordered Before (all_walks v start limit)
  unfolding all_walks Ordered
  all_ordered start zero = tt
  all_ordered start (suc k) = (
    (λ w m. let g = found v k (start ∷ []) start (edge_link (v start)) w m in inl (record { x = edge_link (v start); after = g.after; is = g.is })),
    walks_ordered k (start ∷ []) start (edge_link (v start)),
  )

  no_step : (from z : ℕ) (r : List ℕ) (x : ℕ) (w : List ℕ) → Follows v from ((z ∷ r) ++ (x ∷ w)) → is_boundary (v (last_object (z ∷ r))) ≡ true → ⊥
  unfolding Follows last_object
  no_step from z [] x w s e = not_left (v z) from x e s.0
  no_step from z (y ∷ r) x w s e = no_step z y r x w s.2 e

  ordered_routes : (ws : List (List ℕ)) → Ordered Before ws → Ordered Before (routes_among v ws)
  unfolding Ordered routes_among
  ordered_routes [] o = tt
  ordered_routes (w ∷ ws) o = go (is_route v w) (ordered_routes ws o.1)
    where
      go : (b : Bool) → Ordered Before (routes_among v ws) → Ordered Before (cond b (w ∷ routes_among v ws) (routes_among v ws))
      go true r = ((λ y m. o.0 y (route_cases v ws y m).0), r)
      go false r = r

  -- a route is no beginning of a walk
  no_extension : (start limit : ℕ) (a b : List ℕ) → Route v start limit a → Walk v start limit b → Extends a b → ⊥
  unfolding last_object FromStart
  no_extension start limit a b h w e = go h.walk.rest h.walk.is w.rest w.is w.led
    where
      go : (ra : List ℕ) → a ≡ start ∷ ra → (rb : List ℕ) → b ≡ start ∷ rb → FromStart v start rb → ⊥
      go [] p rb q f = let t = h.two in let l : length a ≡ 1 = ap length p in omega arith
      go (y ∷ ra) p rb q f =
          let same : rb ≡ (y ∷ ra) ++ (e.x ∷ e.after) = tail-eq_of_cons-eq (sym q ∙ e.is ∙ ap (λ (l : List ℕ). l ++ (e.x ∷ e.after)) p) in
          let fs = subst (λ (l : List ℕ). FromStart v start l) same f in
          no_step start y ra e.x e.after fs.2 (ap (λ (l : List ℕ). is_boundary (v (last_object l))) (sym p) ∙ h.ends)

module _ (v : ℕ → Object) (Good : ℕ → Type 0) (joined : Joined v Good) (start limit : ℕ) (good : Good start) where
  good_end : (a : List ℕ) → Walk v start limit a → (front end : List ℕ) → a ≡ front ++ end → (x : ℕ) → Memᴰ x end → Good x
  good_end a w front end e x m = walk_good v Good joined start limit a x good w (subst (λ (l : List ℕ). Memᴰ x l) (sym e) (Memᴰ.append_right front m))

  -- a walk is not before itself
  no_self : (a : List ℕ) → Walk v start limit a → Before v a a → ⊥
  no_self a w (inl e) = let l = ap length e.is ∙ length-append a (e.x ∷ e.after) in omega arith
  no_self a w (inr p) =
      let t = p.links in
      let c = append_cancel_left p.same (p.at ∷ t.normal ∷ p.after) (p.at ∷ t.reverse ∷ p.after') (sym p.by_normal ∙ p.by_reverse) in
      let twice : t.normal ≡ t.reverse = head-eq_of_cons-eq (tail-eq_of_cons-eq c) in
      let here : Good p.at = good_end a w p.same _ p.by_reverse p.at (Memᴰ.head refl) in
      let next : Good t.reverse = good_end a w p.same _ p.by_reverse t.reverse (Memᴰ.tail (Memᴰ.head refl)) in
      let d : Single (links_of (Turnout t)) = subst (λ (o : Object). Single (links_of o)) p.turnout (joined.single p.at here) in
      d.1.0 t.reverse (Memᴰ.head refl) (joined.placed t.reverse next) twice

  -- THEOREM: the list of walks has all partial walks and nothing else, each once
  pub all_walks_lem : Exactly (Walk v start limit) (all_walks v start limit)
  all_walks_lem = record {
    sound = walks_sound v Good joined start limit good;
    complete = walks_complete v Good joined start limit good;
    once = ordered_distinct (Before v) (all_walks v start limit) (all_ordered v start limit) (λ a m. no_self a (walks_sound v Good joined start limit good a m));
  }

  -- THEOREM: its length is the number of partial walks
  pub walks_counted : Number (Walk v start limit) (length (all_walks v start limit))
  walks_counted = record { all = all_walks v start limit; exactly = all_walks_lem; count = refl }

  routes_ordered : Ordered (PartAtTurnout v) (all_routes v start limit)
  routes_ordered =
      ordered_map (Before v) (PartAtTurnout v) (all_routes v start limit) (ordered_routes v (all_walks v start limit) (all_ordered v start limit))
      (λ a b h k. ⊎_elim (λ e. absurd (no_extension v start limit a b (routes_sound v Good joined start limit good a h) (walks_sound v Good joined start limit good b (route_cases v (all_walks v start limit) b k).0) e)) (λ p. p))

  -- THEOREM: the list of routes has all routes and nothing else, each once and in their order
  pub all_routes_lem : AllRoutes v start limit (all_routes v start limit)
  all_routes_lem = record {
    exactly = record {
      sound = routes_sound v Good joined start limit good;
      complete = routes_complete v Good joined start limit good;
      once = ordered_distinct (PartAtTurnout v) (all_routes v start limit) routes_ordered (λ a m p. no_self a (routes_sound v Good joined start limit good a m).walk (inr p));
    };
    ordered = routes_ordered;
  }
