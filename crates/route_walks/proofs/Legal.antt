-- Legal steps, in a graph whose links are returned and not doubled: they are those that the list of walks takes, and lead to good places.
use Prim.Native.Nat.{ℕ}
use mathlib.Core.Path.{◌≡◌, sym, subst, ◌∙◌}
use mathlib.Core.Logic.{⊎_elim}
use mathlib.Core.List.Memᴰ
use mathlib.Core.List.{List, [], ◌∷◌, Memᴰ}
use Rattle.route_graph.specs.declared.Object.{Object}
use Rattle.route_graph.specs.Objects.{links_of, edge_link}
use Rattle.route_graph.specs.Links.{Joined}
use Rattle.route_graph.proofs.Ways.{left_link, exits_left, edge_in}
use Rattle.route_walks.specs.Legal.{Follows, FromStart, Walk}
use Rattle.route_walks.proofs.Listed.{Traced}

module _ (v : ℕ → Object) (Good : ℕ → Type 0) (joined : Joined v Good) where
  -- a is entered from `from`, by one of its links
  pub record Entered (from a : ℕ) : Type 0 where
    pub origin : Good from
    pub place : Good a
    pub link : Memᴰ from (links_of (v a))

  -- what a link of a good place names is entered from there
  pub enters : (a b : ℕ) → Good a → Memᴰ b (links_of (v a)) → ¬ (b ≡ 0) → Entered a b
  enters a b g m n = record { origin = g; place = joined.target a b g m n; link = joined.returned a b g m n }

  -- what the boundary asked for is left to
  pub enters_first : (start b : ℕ) → Good start → b ≡ edge_link (v start) → ¬ (b ≡ 0) → Entered start b
  enters_first start b g e n = enters start b g (subst (λ (x : ℕ). Memᴰ x (links_of (v start))) (sym e) (edge_in (v start) (λ z. n (e ∙ z)))) n

  pub traced_steps : (w : List ℕ) (from a : ℕ) → Entered from a → Traced v from (a ∷ w) → Follows v from (a ∷ w)
  unfolding Traced Follows
  traced_steps [] from a h t = tt
  traced_steps (b ∷ w) from a h t =
      let e = (exits_left (v a) from b (joined.single a h.place) h.link (joined.placed from h.origin)).0 t.0 in
      (e, t.1, traced_steps w a b (enters a b h.place (left_link (v a) from b e) t.1) t.2)

  pub steps_traced : (w : List ℕ) (from a : ℕ) → Entered from a → Follows v from (a ∷ w) → Traced v from (a ∷ w)
  unfolding Traced Follows
  steps_traced [] from a h s = tt
  steps_traced (b ∷ w) from a h s = (
    (exits_left (v a) from b (joined.single a h.place) h.link (joined.placed from h.origin)).1 s.0,
    s.1,
    steps_traced w a b (enters a b h.place (left_link (v a) from b s.0) s.1) s.2,
  )

  steps_good : (from a : ℕ) (w : List ℕ) (x : ℕ) → Good a → Follows v from (a ∷ w) → Memᴰ x (a ∷ w) → Good x
  unfolding Follows
  steps_good from a [] x g s m = subst Good (sym (Memᴰ.eq_of_singleton m)) g
  steps_good from a (b ∷ w) x g s m =
      ⊎_elim (λ e. subst Good (sym e) g) (λ n. steps_good a b w x (joined.target a b g (left_link (v a) from b s.0) s.1) s.2 n) (Memᴰ.cases_cons m)

  later_good : (start : ℕ) (r : List ℕ) (x : ℕ) → Good start → FromStart v start r → Memᴰ x r → Good x
  unfolding FromStart
  later_good start [] x g f m = absurd (Memᴰ.not-nil m)
  later_good start (b ∷ w) x g f m = steps_good start b w x (enters_first start b g f.0 f.1).place f.2 m

  -- THEOREM: a walk from a good place goes over good places
  pub walk_good : (start limit : ℕ) (w : List ℕ) (x : ℕ) → Good start → Walk v start limit w → Memᴰ x w → Good x
  walk_good start limit w x g h m =
      ⊎_elim (λ e. subst Good (sym e) g) (λ q. later_good start h.rest x g h.led q) (Memᴰ.cases_cons (subst (λ (l : List ℕ). Memᴰ x l) h.is m))
