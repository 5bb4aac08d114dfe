-- A route read backwards is a route, in a graph whose links are those of an accepted file: a link that is followed is returned, and an object
-- that is left towards one side is left towards the other.
use Prim.Native.Nat.{ℕ}
use native.Mathlib.Omega.{arith}
use mathlib.Core.Path.{◌≡◌, refl, sym, ap, subst, ◌∙◌}
use mathlib.Core.Bool.{true}
use mathlib.Core.Logic.{⊎_elim, ◌↔◌}
use mathlib.Core.List.Memᴰ
use mathlib.Core.List.{List, [], ◌∷◌, reverse, reverse_aux, reverse-reverse, Memᴰ}
use lib.ListN.{length, length-reverse}
use Rattle.route_graph.specs.declared.Object.{Object}
use Rattle.route_graph.specs.Objects.{is_boundary}
use Rattle.route_graph.specs.Links.{Joined}
use Rattle.route_graph.proofs.Ways.{left_back, left_link, in_edge}
use Rattle.route_walks.specs.Legal.{Follows, FromStart, NoneTwice, last_object}
use Rattle.route_walks.proofs.Legal.{Entered, enters, enters_first}
use Rattle.route_backwards.specs.Backwards.{RouteTo}

-- ---- a list read backwards, before what is turned already

last_kept : (w : List ℕ) (x : ℕ) (turned : List ℕ) → last_object (reverse_aux w (x ∷ turned)) ≡ last_object (x ∷ turned)
unfolding last_object
last_kept [] x turned = refl
last_kept (y ∷ w) x turned = last_kept w y (x ∷ turned)

none_twice_back : (w turned : List ℕ) → NoneTwice w → NoneTwice turned → ((x : ℕ) → Memᴰ x w → Memᴰ x turned → ⊥) → NoneTwice (reverse_aux w turned)
unfolding NoneTwice
none_twice_back [] turned d e f = e
none_twice_back (x ∷ w) turned d e f =
    none_twice_back w (x ∷ turned) d.1 (f x (Memᴰ.head refl), e)
    (λ y m n. ⊎_elim (λ q. d.0 (Memᴰ.cast (sym q) m)) (λ k. f y (Memᴰ.tail m) k) (Memᴰ.cases_cons n))

module _ (v : ℕ → Object) (Good : ℕ → Type 0) (joined : Joined v Good) where
  -- a list that is what follows its first object a
  record From (l : List ℕ) (a : ℕ) : Type 0 where
    pub rest : List ℕ
    pub is : l ≡ a ∷ rest
    pub led : FromStart v a rest

  -- the walk that comes from x through a and goes on by w to a boundary, read backwards before what is turned already: what is turned starts with
  -- x, and follows from a
  turn : (w : List ℕ) (a x : ℕ) (turned : List ℕ) → Entered v Good joined x a → Follows v x (a ∷ w) → Follows v a (x ∷ turned)
      → is_boundary (v (last_object (a ∷ w))) ≡ true → From (reverse_aux w (a ∷ x ∷ turned)) (last_object (a ∷ w))
  unfolding Follows FromStart last_object
  turn [] a x turned in-by on back b = record { rest = x ∷ turned; is = refl; led = (in_edge (v a) x b in-by.link, joined.placed x in-by.origin, back) }
  turn (y ∷ w) a x turned in-by on back b =
      turn w y a (x ∷ turned) (enters v Good joined a y in-by.place (left_link (v a) x y on.0) on.1) on.2
      (left_back (v a) x y on.0, joined.placed x in-by.origin, back) b

  -- THEOREM: a route from a boundary, read backwards, is a route from its last object to that boundary
  pub route_back : (a b limit : ℕ) (w : List ℕ) → Good a → is_boundary (v a) ≡ true → RouteTo v a b limit w → RouteTo v b a limit (reverse w)
  unfolding FromStart last_object NoneTwice Follows
  route_back a b limit w good edge r = go r.route.walk.rest r.route.walk.is r.route.walk.led
    where
      go : (rest : List ℕ) → w ≡ a ∷ rest → FromStart v a rest → RouteTo v b a limit (reverse w)
      go [] e f = let t = r.route.two in let l : length w ≡ 1 = ap length e in absurd (omega arith)
      go (y ∷ rest) e f =
          let ends : last_object w ≡ last_object (y ∷ rest) = ap last_object e in
          let at_b : last_object (y ∷ rest) ≡ b = sym ends ∙ r.ends_at in
          let t = turn rest y a [] (enters_first v Good joined a y good f.0 f.1) f.2 tt (ap (λ (x : ℕ). is_boundary (v x)) (sym ends) ∙ r.route.ends) in
          let turned : reverse w ≡ reverse_aux rest (y ∷ a ∷ []) = ap reverse e in
          let last : last_object (reverse w) ≡ a = ap last_object turned ∙ last_kept rest y (a ∷ []) in
          let n : length (reverse w) ≡ length w = length-reverse w in
          let short = r.route.walk.short in
          let two = r.route.two in
          record {
            route = record {
              walk = record {
                rest = t.rest;
                is = turned ∙ t.is ∙ ap (λ (x : ℕ). x ∷ t.rest) at_b;
                led = subst (λ (x : ℕ). FromStart v x t.rest) at_b t.led;
                once = none_twice_back w [] r.route.walk.once tt (λ x i k. Memᴰ.not-nil k);
                short = omega arith;
              };
              two = omega arith;
              ends = ap (λ (x : ℕ). is_boundary (v x)) last ∙ edge;
            };
            ends_at = last;
          }

  -- THEOREM: of two boundaries, w is a route from the one to the other exactly when its reverse is one from the other to the one
  pub route_back_iff : (a b limit : ℕ) → Good a → Good b → is_boundary (v a) ≡ true → is_boundary (v b) ≡ true → (w : List ℕ)
      → RouteTo v a b limit w ↔ RouteTo v b a limit (reverse w)
  route_back_iff a b limit ga gb ea eb w = (
    λ r. route_back a b limit w ga ea r,
    λ r. subst (RouteTo v a b limit) (reverse-reverse w) (route_back b a limit (reverse w) gb eb r),
  )
