-- The lists of walks, at what the code's tests say.
use Prim.Native.Nat.{ℕ, zero, suc, ◌-◌, ◌≤◌}
use native.Mathlib.Numerals.{sub-one}
use native.Mathlib.Omega.{arith}
use mathlib.Core.Path.{◌≡◌, refl, ap, ◌∙◌}
use mathlib.Core.Bool.{true, false, or-true}
use mathlib.Core.List.{List, [], ◌∷◌, ◌++◌, append-nil}
use lib.ListN.{length, length-append}
use lib.Dec.{eqb}
use borrow.Author.Tests.{eq-eqb, ne_eqb, lt-ltb}
use Rattle.route_graph.specs.declared.PlainLinks.{PlainLinks}
use Rattle.route_graph.specs.declared.TurnoutLinks.{TurnoutLinks}
use Rattle.route_graph.specs.declared.Object.{Object}
use Rattle.route_graph.specs.declared.Object.TheVariants.{Boundary, Plain, Turnout, Nothing}
use Rattle.route_graph.specs.Objects.{is_boundary}
use Rattle.route_graph.specs.Ways.{onward_of, legs_of, exits_of}
use Rattle.route_walks.specs.Legal.{last_object}
use Rattle.route_walks.specs.Walks.{has, each, walks, branches, is_route}

module _ (v : ℕ → Object) (p : List ℕ) (from to : ℕ) where
  pub walks_none : (k : ℕ) → to ≡ 0 → walks v k p from to ≡ []
  unfolding walks
  walks_none zero e = refl
  walks_none (suc k) e = rw (eq-eqb to 0 e, walks) refl

  pub walks_end : (k : ℕ) → k ≡ 0 → walks v k p from to ≡ []
  unfolding walks
  walks_end k e = rw e refl

  pub walks_passed : (k : ℕ) → has p to ≡ true → walks v k p from to ≡ []
  unfolding walks
  walks_passed zero e = refl
  walks_passed (suc k) e = rw (e, or-true (eqb to 0), walks) refl

  module _ (nonzero : to ≡ 0 → ⊥) (fresh : has p to ≡ false) where
    pub walks_more : (k : ℕ) → walks v (suc k) p from to ≡ (p ++ (to ∷ [])) ∷ each (λ x. walks v k (p ++ (to ∷ [])) to x) (exits_of (v to) from)
    unfolding walks
    walks_more k = rw (ne_eqb to 0 nonzero, fresh, walks) refl

    pub walks_boundary : (k link : ℕ) → (k ≡ 0 → ⊥) → v to ≡ Boundary link → walks v k p from to ≡ (p ++ (to ∷ [])) ∷ []
    unfolding each exits_of
    walks_boundary zero link n e = absurd (n refl)
    walks_boundary (suc k) link n e = walks_more k ∙ rw e refl

    pub walks_nothing : (k : ℕ) → (k ≡ 0 → ⊥) → v to ≡ Nothing → walks v k p from to ≡ (p ++ (to ∷ [])) ∷ []
    unfolding each exits_of
    walks_nothing zero n e = absurd (n refl)
    walks_nothing (suc k) n e = walks_more k ∙ rw e refl

    pub walks_turnout : (k : ℕ) (t : TurnoutLinks) → (k ≡ 0 → ⊥) → v to ≡ Turnout t
        → walks v k p from to ≡ (p ++ (to ∷ [])) ∷ branches v (k - 1) (p ++ (to ∷ [])) from to t
    unfolding exits_of branches
    walks_turnout zero t n e = absurd (n refl)
    walks_turnout (suc k) t n e = walks_more k ∙ rw (sub-one (suc k), e) refl

    pub walks_plain : (k : ℕ) (q : PlainLinks) → (k ≡ 0 → ⊥) → v to ≡ Plain q → walks v k p from to ≡ (p ++ (to ∷ [])) ∷ walks v (k - 1) (p ++ (to ∷ [])) to (onward_of q from)
    unfolding each exits_of
    walks_plain zero q n e = absurd (n refl)
    walks_plain (suc k) q n e = walks_more k ∙ rw (sub-one (suc k), e) (ap (λ (l : List (List ℕ)). (p ++ (to ∷ [])) ∷ l) (append-nil (walks v k (p ++ (to ∷ [])) to (onward_of q from))))

module _ (v : ℕ → Object) (p : List ℕ) (k from at : ℕ) (t : TurnoutLinks) where
  pub turnout_legs : t.front ≡ from → branches v k p from at t ≡ walks v k p at t.normal ++ walks v k p at t.reverse
  unfolding each legs_of branches
  turnout_legs e = rw (eq-eqb t.front from e, branches, each, legs_of) (ap (λ (l : List (List ℕ)). walks v k p at t.normal ++ l) (append-nil (walks v k p at t.reverse)))

  pub turnout_front : (t.front ≡ from → ⊥) → branches v k p from at t ≡ walks v k p at t.front
  unfolding each legs_of branches
  turnout_front e = rw (ne_eqb t.front from e, branches, each, legs_of) (append-nil (walks v k p at t.front))

last_snoc : (p : List ℕ) (x : ℕ) → last_object (p ++ (x ∷ [])) ≡ x
unfolding last_object
last_snoc [] x = refl
last_snoc (a ∷ []) x = refl
last_snoc (a ∷ b ∷ p) x = last_snoc (b ∷ p) x

-- a walk with an object more is a route where that is a boundary
pub route_at : (v : ℕ → Object) (p : List ℕ) (x : ℕ) → 1 ≤ length p → is_route v (p ++ (x ∷ [])) ≡ is_boundary (v x)
unfolding is_route
route_at v p x h = rw (last_snoc p x, lt-ltb 1 (length (p ++ (x ∷ []))) (omega (arith, length-append p (x ∷ [])))) refl
