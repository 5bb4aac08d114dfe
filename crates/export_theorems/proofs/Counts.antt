-- How large the counts of a list of routes are, which is made only where the partial walks are at most the budget: no route is more than one of
-- them, and none has more objects than the limit.
use Prim.Native.Nat.{ℕ, zero, suc, ◌+◌, ◌*◌, ◌≤◌}
use native.Mathlib.Omega.{arith}
use mathlib.Core.Path.{refl, ap}
use mathlib.Core.Bool.{Bool, true, false, cond}
use mathlib.Core.Logic.{⊎_elim}
use mathlib.Core.List.Memᴰ
use mathlib.Core.List.{List, [], ◌∷◌, Memᴰ}
use lib.ListN.{length, length-append}
use Rattle.route_graph.specs.declared.Object.{Object}
use Rattle.route_graph.specs.Objects.{edge_link}
use Rattle.route_walks.specs.Walks.{all_walks, is_route, routes_among, all_routes, words_of}
use Rattle.route_walks.specs.Range.{limit_most}
use Rattle.route_walks.proofs.Listed.{found}
use Rattle.route_walks.proofs.Sound.{route_cases}

-- the words of some lists, none of which is longer than a limit may be
words_most : (ws : List (List ℕ)) → ((w : List ℕ) → Memᴰ w ws → length w ≤ limit_most) → length (words_of ws) ≤ (limit_most + 1) * length ws
unfolding words_of
words_most [] h = omega arith
words_most (w ∷ ws) h = omega (arith, length-append w (words_of ws), h w (Memᴰ.head refl), words_most ws (λ x m. h x (Memᴰ.tail m)))

module _ (v : ℕ → Object) where
  pub fewer_routes : (ws : List (List ℕ)) → length (routes_among v ws) ≤ length ws
  unfolding routes_among
  fewer_routes [] = omega arith
  fewer_routes (w ∷ ws) = by_test (is_route v w) (fewer_routes ws)
    where
      by_test : (t : Bool) → length (routes_among v ws) ≤ length ws → length (cond t (w ∷ routes_among v ws) (routes_among v ws)) ≤ suc (length ws)
      by_test true h = omega arith
      by_test false h = omega arith

  -- a walk that is listed has at most the limit of objects
  short_walk : (start limit : ℕ) (w : List ℕ) → Memᴰ w (all_walks v start limit) → length w ≤ limit
  unfolding all_walks
  short_walk start zero w m = absurd (Memᴰ.not-nil m)
  short_walk start (suc k) w m =
      ⊎_elim
      (λ e. let n = ap length e in omega arith)
      (λ h.
      let g = found v k (start ∷ []) start (edge_link (v start)) w h in
      let n = ap length g.is in
      let s = g.goes.short in
      omega arith)
      (Memᴰ.cases_cons m)

  pub few_words : (start limit : ℕ) → limit ≤ limit_most → length (words_of (all_routes v start limit)) ≤ (limit_most + 1) * length (all_routes v start limit)
  few_words start limit h =
      words_most (all_routes v start limit) (λ w m. let s = short_walk start limit w (route_cases v (all_walks v start limit) w m).0 in omega arith)
