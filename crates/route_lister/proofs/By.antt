-- The walks that go on by a link, at what `way_of` says of the object that the link names.
use Prim.Native.Nat.{ℕ, ◌-◌}
use native.Mathlib.Omega.{arith}
use mathlib.Core.Path.{◌≡◌, refl, sym, ap, ◌∙◌}
use mathlib.Core.Bool.{Bool, true, false, cond}
use mathlib.Core.List.{List, [], ◌∷◌, ◌++◌}
use lib.Dec.{eqb}
use borrow.Author.Tests.{eqb-true, eqb-false}
use Rattle.route_graph.specs.declared.TurnoutLinks.{TurnoutLinks}
use Rattle.route_graph.specs.declared.Object.{Object}
use Rattle.route_graph.specs.declared.Object.TheVariants.{Boundary, Plain, Turnout, Nothing}
use Rattle.route_graph.specs.Objects.{is_boundary}
use Rattle.route_graph.specs.Ways.{onward_of}
use Rattle.route_walks.specs.Walks.{has, walks, branches}
use Rattle.route_walks.proofs.Unfold.{walks_none, walks_boundary, walks_nothing, walks_turnout, walks_plain, turnout_front}
use Rattle.route_lister.specs.declared.ways.Way.TheVariants.{Arrives, Forks, On}
use Rattle.route_lister.specs.inner.Ways.{turnout_way, way_of}

-- the ways are three
not_on : (x : ℕ) → Arrives ≡ On x → ⊥
not_on x e = let z : ◌≡◌ {A = ℕ} 0 1 = cc in omega arith

not_forks : (q : TurnoutLinks) → Arrives ≡ Forks q → ⊥
not_forks q e = let z : ◌≡◌ {A = ℕ} 0 1 = cc in omega arith

not_both : (q : TurnoutLinks) (x : ℕ) → Forks q ≡ On x → ⊥
not_both q x e = let z : ◌≡◌ {A = ℕ} 0 1 = cc in omega arith

same_link : (x y : ℕ) → On x ≡ On y → x ≡ y
same_link x y e = cc

same_links : (q r : TurnoutLinks) → Forks q ≡ Forks r → q ≡ r
same_links q r e = cc

module _ (v : ℕ → Object) (p : List ℕ) (from to : ℕ) (nonzero : to ≡ 0 → ⊥) (fresh : has p to ≡ false) (k : ℕ) (more : k ≡ 0 → ⊥) where
  -- the walk with the object `to` more
  abbrev longer : List ℕ
  longer = p ++ (to ∷ [])

  pub arrives_by : way_of (v to) from ≡ Arrives → (is_boundary (v to) ≡ true) × (walks v k p from to ≡ longer ∷ [])
  unfolding way_of turnout_way
  arrives_by e = go (v to) refl e
    where
      turned : (t : TurnoutLinks) (b : Bool) → cond b (Forks t) (On t.front) ≡ Arrives → ⊥
      turned t true h = not_forks t (sym h)
      turned t false h = not_on t.front (sym h)

      go : (o : Object) → v to ≡ o → way_of o from ≡ Arrives → (is_boundary (v to) ≡ true) × (walks v k p from to ≡ longer ∷ [])
      go (Boundary link) s h = (ap is_boundary s, walks_boundary v p from to nonzero fresh k link more s)
      go (Plain q) s h = absurd (not_on (onward_of q from) (sym h))
      go (Turnout t) s h = absurd (turned t (eqb t.front from) h)
      go Nothing s h = absurd (not_on 0 (sym h))

  pub on_by : (x : ℕ) → way_of (v to) from ≡ On x → (is_boundary (v to) ≡ false) × (walks v k p from to ≡ longer ∷ walks v (k - 1) longer to x)
  unfolding way_of turnout_way
  on_by x e = go (v to) refl e
    where
      front : (t : TurnoutLinks) (b : Bool) → eqb t.front from ≡ b → cond b (Forks t) (On t.front) ≡ On x → (t.front ≡ from → ⊥) × (t.front ≡ x)
      front t true s h = absurd (not_both t x h)
      front t false s h = (eqb-false t.front from s, same_link t.front x h)

      go : (o : Object) → v to ≡ o → way_of o from ≡ On x → (is_boundary (v to) ≡ false) × (walks v k p from to ≡ longer ∷ walks v (k - 1) longer to x)
      go (Boundary link) s h = absurd (not_on x h)
      go (Plain q) s h =
          (ap is_boundary s, walks_plain v p from to nonzero fresh k q more s ∙ ap (λ (y : ℕ). longer ∷ walks v (k - 1) longer to y) (same_link (onward_of q from) x h))
      go (Turnout t) s h =
          let f = front t (eqb t.front from) refl h in
          (ap is_boundary s, walks_turnout v p from to nonzero fresh k t more s ∙ ap (λ (ws : List (List ℕ)). longer ∷ ws) (turnout_front v longer (k - 1) from to t f.0 ∙ ap (λ (y : ℕ). walks v (k - 1) longer to y) f.1))
      go Nothing s h =
          (ap is_boundary s, walks_nothing v p from to nonzero fresh k more s ∙ ap (λ (ws : List (List ℕ)). longer ∷ ws) (sym (walks_none v longer to x (k - 1) (sym (same_link 0 x h)))))

  pub forks_by : (q : TurnoutLinks) → way_of (v to) from ≡ Forks q → (is_boundary (v to) ≡ false) × (walks v k p from to ≡ longer ∷ branches v (k - 1) longer q.front to q)
  unfolding way_of turnout_way
  forks_by q e = go (v to) refl e
    where
      turned : (t : TurnoutLinks) (b : Bool) → eqb t.front from ≡ b → cond b (Forks t) (On t.front) ≡ Forks q → (t.front ≡ from) × (t ≡ q)
      turned t true s h = (eqb-true t.front from s, same_links t q h)
      turned t false s h = absurd (not_both q t.front (sym h))

      go : (o : Object) → v to ≡ o → way_of o from ≡ Forks q → (is_boundary (v to) ≡ false) × (walks v k p from to ≡ longer ∷ branches v (k - 1) longer q.front to q)
      go (Boundary link) s h = absurd (not_forks q h)
      go (Plain r) s h = absurd (not_both q (onward_of r from) (sym h))
      go (Turnout t) s h =
          let f = turned t (eqb t.front from) refl h in (
            ap is_boundary s,
            walks_turnout v p from to nonzero fresh k t more s ∙ ap (λ (a : ℕ). longer ∷ branches v (k - 1) longer a to t) (sym f.0)
                ∙ ap (λ (r : TurnoutLinks). longer ∷ branches v (k - 1) longer r.front to r) f.1,
          )
      go Nothing s h = absurd (not_both q 0 (sym h))
