-- How an object is left: the list of links is what 01's words say, of an object that has no doubled link and was entered by one of its
-- links; and what is left towards one side can be left towards the other.
use Prim.Native.Nat.{ℕ}
use mathlib.Core.Path.{◌≡◌, refl, sym}
use mathlib.Core.Bool.{Bool, true, false, cond, true≢false}
use mathlib.Core.Logic.{◌⊎◌, inl, inr, ⊎_elim, ◌↔◌}
use mathlib.Core.List.Memᴰ
use mathlib.Core.List.{[], ◌∷◌, Memᴰ}
use lib.Dec.{eqb}
use borrow.Author.Tests.{eqb-true, eqb-false}
use Rattle.route_graph.specs.declared.Object.{Object}
use Rattle.route_graph.specs.declared.Object.TheVariants.{Boundary, Plain, Turnout, Nothing}
use Rattle.route_graph.specs.Objects.{links_of, is_boundary, edge_link}
use Rattle.route_graph.specs.Ways.{LeftBy, onward_of, legs_of, exits_of}
use Rattle.route_graph.specs.Links.{Single}

-- THEOREM: an object that is left by y, entered from x, is left by x, entered from y
pub left_back : (o : Object) (x y : ℕ) → LeftBy o x y → LeftBy o y x
unfolding LeftBy
left_back (Boundary link) x y h = h
left_back (Plain p) x y h = ⊎_elim (λ a. inr (sym a.1, sym a.0)) (λ a. inl (sym a.1, sym a.0)) h
left_back (Turnout t) x y h =
    ⊎_elim (λ a. inr (⊎_elim (λ q. inl (sym q)) (λ q. inr (sym q)) a.1, sym a.0))
    (λ a. inl (sym a.1, ⊎_elim (λ q. inl (sym q)) (λ q. inr (sym q)) a.0)) h
left_back Nothing x y h = h

-- it is left by one of its links
pub left_link : (o : Object) (from x : ℕ) → LeftBy o from x → Memᴰ x (links_of o)
unfolding LeftBy
left_link (Boundary link) from x h = absurd h
left_link (Plain p) from x h = ⊎_elim (λ a. Memᴰ.tail (Memᴰ.head a.1)) (λ a. Memᴰ.head a.1) h
left_link (Turnout t) from x h =
    ⊎_elim (λ a. Memᴰ.tail (⊎_elim (λ q. Memᴰ.head q) (λ q. Memᴰ.tail (Memᴰ.head q)) a.1))
    (λ a. Memᴰ.head a.1) h
left_link Nothing from x h = absurd h

-- THEOREM: the links by which an object is left, one of whose links it was entered by, are those that 01's words say
pub exits_left : (o : Object) (from x : ℕ) → Single (links_of o) → Memᴰ from (links_of o) → ¬ (from ≡ 0) → Memᴰ x (exits_of o from) ↔ LeftBy o from x
unfolding exits_of onward_of legs_of LeftBy
exits_left (Boundary link) from x d m n = (λ h. Memᴰ.not-nil h, λ h. absurd h)
exits_left Nothing from x d m n = (λ h. Memᴰ.not-nil h, λ h. absurd h)
exits_left (Plain p) from x d m n = go (eqb p.previous from) refl
  where
    go : (b : Bool) → eqb p.previous from ≡ b
        → Memᴰ x (cond b p.next p.previous ∷ []) ↔ (((p.previous ≡ from) × (x ≡ p.next)) ⊎ ((p.next ≡ from) × (x ≡ p.previous)))
    go true e =
        let q = eqb-true p.previous from e in
        (λ h. inl (q, Memᴰ.eq_of_singleton h), λ h. ⊎_elim (λ a. Memᴰ.head a.1) (λ a. absurd (d.0 from (Memᴰ.head (sym a.0)) n q)) h)
    go false e =
        let q = eqb-false p.previous from e in
        let z = ⊎_elim (λ (h : from ≡ p.previous). absurd (q (sym h))) (λ h. sym (Memᴰ.eq_of_singleton h)) (Memᴰ.cases_cons m) in
        (λ h. inr (z, Memᴰ.eq_of_singleton h), λ h. ⊎_elim (λ a. absurd (q a.0)) (λ a. Memᴰ.head a.1) h)
exits_left (Turnout t) from x d m n = go (eqb t.front from) refl
  where
    leg : ((t.normal ≡ from) ⊎ (t.reverse ≡ from)) → Memᴰ from (t.normal ∷ t.reverse ∷ [])
    leg (inl a) = Memᴰ.head (sym a)
    leg (inr a) = Memᴰ.tail (Memᴰ.head (sym a))

    go : (b : Bool) → eqb t.front from ≡ b
        → Memᴰ x (cond b (t.normal ∷ t.reverse ∷ []) (t.front ∷ []))
        ↔ (((t.front ≡ from) × ((x ≡ t.normal) ⊎ (x ≡ t.reverse))) ⊎ (((t.normal ≡ from) ⊎ (t.reverse ≡ from)) × (x ≡ t.front)))
    go true e =
        let q = eqb-true t.front from e in (
          (λ h. inl (q, ⊎_elim (λ a. inl a) (λ a. inr (Memᴰ.eq_of_singleton a)) (Memᴰ.cases_cons h))),
          (λ h. ⊎_elim (λ a. ⊎_elim (λ y. Memᴰ.head y) (λ y. Memᴰ.tail (Memᴰ.head y)) a.1) (λ a. absurd (d.0 from (leg a.0) n q)) h),
        )
    go false e =
        let q = eqb-false t.front from e in
        let z = ⊎_elim (λ (h : from ≡ t.front). absurd (q (sym h))) (λ h. ⊎_elim (λ a. inl (sym a)) (λ a. inr (sym (Memᴰ.eq_of_singleton a))) (Memᴰ.cases_cons h)) (Memᴰ.cases_cons m) in
        (λ h. inr (z, Memᴰ.eq_of_singleton h), λ h. ⊎_elim (λ a. absurd (q a.0)) (λ a. Memᴰ.head a.1) h)

-- the link by which a boundary is left is one of its links, and it has no other
pub edge_in : (o : Object) → ¬ (edge_link o ≡ 0) → Memᴰ (edge_link o) (links_of o)
edge_in (Boundary link) n = Memᴰ.head refl
edge_in (Plain p) n = absurd (n refl)
edge_in (Turnout t) n = absurd (n refl)
edge_in Nothing n = absurd (n refl)

pub in_edge : (o : Object) (x : ℕ) → is_boundary o ≡ true → Memᴰ x (links_of o) → x ≡ edge_link o
in_edge (Boundary link) x b m = Memᴰ.eq_of_singleton m
in_edge (Plain p) x b m = absurd (true≢false (sym b))
in_edge (Turnout t) x b m = absurd (true≢false (sym b))
in_edge Nothing x b m = absurd (true≢false (sym b))

-- a boundary that is reached is not left
pub not_left : (o : Object) (from x : ℕ) → is_boundary o ≡ true → LeftBy o from x → ⊥
unfolding LeftBy
not_left (Boundary link) from x b h = h
not_left (Plain p) from x b h = true≢false (sym b)
not_left (Turnout t) from x b h = true≢false (sym b)
not_left Nothing from x b h = h
