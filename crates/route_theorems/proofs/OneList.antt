-- The list with all routes, each once and in their order, is one: no two routes part both ways, and two lists with the same elements, in an
-- order that goes one way, are the same.
use Prim.Native.Nat.{ℕ}
use mathlib.Core.Path.{◌≡◌, refl, sym, ap, ap₂, subst, ◌∙◌}
use mathlib.Core.Logic.{⊎_elim}
use mathlib.Core.List.Memᴰ
use mathlib.Core.List.{List, [], ◌∷◌, ◌++◌, head-eq_of_cons-eq, tail-eq_of_cons-eq, Memᴰ}
use Rattle.route_graph.specs.declared.TurnoutLinks.{TurnoutLinks}
use Rattle.route_graph.specs.declared.Object.{Object}
use Rattle.route_graph.specs.declared.Object.TheVariants.{Turnout}
use Rattle.route_graph.specs.Objects.{links_of}
use Rattle.route_graph.specs.Links.{Single, Joined}
use Rattle.route_walks.specs.Legal.{Walk, PartAtTurnout}
use Rattle.route_walks.specs.All.{Ordered, AllRoutes}
use Rattle.route_walks.proofs.Legal.{walk_good}

-- ---- two lists with the same elements, in an order that goes one way

module _ {A : Type 0} (R : A → A → Type 0) where
  -- all of a stands in b
  abbrev In : List A → List A → Type 0
  In a b = (x : A) → Memᴰ x a → Memᴰ x b

  -- R goes one way among the elements of a
  abbrev OneWay : List A → Type 0
  OneWay a = (x y : A) → Memᴰ x a → Memᴰ y a → R x y → R y x → ⊥

  -- what stands after the first stands after the other's first, since it is the same
  after_first : (x y : A) (a b : List A) → x ≡ y → Ordered R (x ∷ a) → OneWay (x ∷ a) → In (x ∷ a) (y ∷ b) → In a b
  unfolding Ordered
  after_first x y a b e o way s z m =
      ⊎_elim
      (λ (q : z ≡ y). let r = o.0 x (Memᴰ.cast (e ∙ sym q) m) in absurd (way x x (Memᴰ.head refl) (Memᴰ.head refl) r r))
      (λ (k : Memᴰ z b). k)
      (Memᴰ.cases_cons (s z (Memᴰ.tail m)))

  same_list : (a b : List A) → Ordered R a → Ordered R b → OneWay a → OneWay b → In a b → In b a → a ≡ b
  unfolding Ordered
  same_list [] [] o p way way' s t = refl
  same_list [] (y ∷ b) o p way way' s t = absurd (Memᴰ.not-nil (t y (Memᴰ.head refl)))
  same_list (x ∷ a) [] o p way way' s t = absurd (Memᴰ.not-nil (s x (Memᴰ.head refl)))
  same_list (x ∷ a) (y ∷ b) o p way way' s t =
      ap₂ ◌∷◌ first
      (same_list a b o.1 p.1 (λ u w h k. way u w (Memᴰ.tail h) (Memᴰ.tail k)) (λ u w h k. way' u w (Memᴰ.tail h) (Memᴰ.tail k))
      (after_first x y a b first o way s)
      (after_first y x b a (sym first) p way' t))
    where
      first : x ≡ y
      first =
          ⊎_elim
          (λ (q : x ≡ y). q)
          (λ (m : Memᴰ x b).
          ⊎_elim
          (λ (q : y ≡ x). sym q)
          (λ (k : Memᴰ y a). absurd (way x y (Memᴰ.head refl) (Memᴰ.tail k) (o.0 y k) (p.0 x m)))
          (Memᴰ.cases_cons (t y (Memᴰ.head refl))))
          (Memᴰ.cases_cons (s x (Memᴰ.head refl)))

-- ---- where two lists part

-- after a common front the lists go on alike: their first objects are the same
alike : (front : List ℕ) (y z x : ℕ) (a b c d : List ℕ) → y ∷ a ≡ front ++ (x ∷ c) → z ∷ b ≡ front ++ (x ∷ d) → y ≡ z
alike [] y z x a b c d p q = head-eq_of_cons-eq p ∙ sym (head-eq_of_cons-eq q)
alike (w ∷ front) y z x a b c d p q = head-eq_of_cons-eq p ∙ sym (head-eq_of_cons-eq q)

-- two lists part at one object x: it, and what stands after it in each, is found by any front
record SamePart (x y z x' y' z' : ℕ) : Type 0 where
  pub at : x ≡ x'
  pub one : y ≡ y'
  pub other : z ≡ z'

one_part : (front front' : List ℕ) (x y z x' y' z' : ℕ) (a b a' b' : List ℕ) → ¬ (y ≡ z) → ¬ (y' ≡ z')
    → front ++ (x ∷ y ∷ a) ≡ front' ++ (x' ∷ y' ∷ a') → front ++ (x ∷ z ∷ b) ≡ front' ++ (x' ∷ z' ∷ b') → SamePart x y z x' y' z'
one_part [] [] x y z x' y' z' a b a' b' n n' p q =
    record { at = head-eq_of_cons-eq p; one = head-eq_of_cons-eq (tail-eq_of_cons-eq p); other = head-eq_of_cons-eq (tail-eq_of_cons-eq q) }
one_part [] (w ∷ front') x y z x' y' z' a b a' b' n n' p q =
    absurd (n (alike front' y z x' a b (y' ∷ a') (z' ∷ b') (tail-eq_of_cons-eq p) (tail-eq_of_cons-eq q)))
one_part (w ∷ front) [] x y z x' y' z' a b a' b' n n' p q =
    absurd (n' (alike front y' z' x a' b' (y ∷ a) (z ∷ b) (sym (tail-eq_of_cons-eq p)) (sym (tail-eq_of_cons-eq q))))
one_part (w ∷ front) (w' ∷ front') x y z x' y' z' a b a' b' n n' p q =
    one_part front front' x y z x' y' z' a b a' b' n n' (tail-eq_of_cons-eq p) (tail-eq_of_cons-eq q)

-- ---- routes

module _ (v : ℕ → Object) (Good : ℕ → Type 0) (joined : Joined v Good) (start limit : ℕ) (good : Good start) where
  module _ (a b : List ℕ) (w : Walk v start limit b) (p : PartAtTurnout v a b) where
    -- where b goes on from the turnout, places are good
    stands : (x : ℕ) → Memᴰ x (p.at ∷ p.links.reverse ∷ p.after') → Good x
    stands x m = walk_good v Good joined start limit b x good w (subst (λ (l : List ℕ). Memᴰ x l) (sym p.by_reverse) (Memᴰ.append_right p.same m))

    -- so the turnout's two legs lead to two places
    two_legs : ¬ (p.links.normal ≡ p.links.reverse)
    two_legs e =
        let t = p.links in
        let single : Single (links_of (Turnout t)) = subst (λ (o : Object). Single (links_of o)) p.turnout (joined.single p.at (stands p.at (Memᴰ.head refl))) in
        single.1.0 t.reverse (Memᴰ.head refl) (joined.placed t.reverse (stands t.reverse (Memᴰ.tail (Memᴰ.head refl)))) e

  -- no two walks part both ways
  not_both : (a b : List ℕ) → Walk v start limit a → Walk v start limit b → PartAtTurnout v a b → PartAtTurnout v b a → ⊥
  not_both a b h k p q =
      let t = p.links in
      let u = q.links in
      let m = one_part p.same q.same p.at t.normal t.reverse q.at u.reverse u.normal p.after p.after' q.after' q.after
      (two_legs a b k p) (λ e. two_legs b a h q (sym e)) (sym p.by_normal ∙ q.by_reverse) (sym p.by_reverse ∙ q.by_normal) in
      let same : Turnout t ≡ Turnout u = sym p.turnout ∙ ap v m.at ∙ q.turnout in
      let links : t ≡ u = cc in
      two_legs a b k p (ap (λ (l : TurnoutLinks). l.normal) links ∙ sym m.other)

  one_way : (ws : List (List ℕ)) → AllRoutes v start limit ws → OneWay (PartAtTurnout v) ws
  one_way ws h a b m n = not_both a b (h.exactly.sound a m).walk (h.exactly.sound b n).walk

  -- THEOREM: there is one list with all routes, each once and in their order
  pub one_list : (a b : List (List ℕ)) → AllRoutes v start limit a → AllRoutes v start limit b → a ≡ b
  one_list a b h k =
      same_list (PartAtTurnout v) a b h.ordered k.ordered (one_way a h) (one_way b k)
      (λ w m. k.exactly.complete w (h.exactly.sound w m))
      (λ w m. h.exactly.complete w (k.exactly.sound w m))
