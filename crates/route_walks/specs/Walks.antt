-- All partial walks, and all routes, as lists in 01's order that can be computed: depth first, and at a turnout normal before reverse.
-- Each recursion counts down the objects that are still allowed by the limit.
use Rattle.std.specs.Prelude.{ℕ, zero, suc, Bool, false, cond, ◌||◌, ◌&&◌, List, [], ◌∷◌, ◌++◌, length, eqb, ltb}
use Rattle.route_graph.specs.declared.TurnoutLinks.{TurnoutLinks}
use Rattle.route_graph.specs.declared.Object.{Object}
use Rattle.route_graph.specs.Objects.{edge_link, is_boundary}
use Rattle.route_graph.specs.Ways.{legs_of, exits_of}
use Rattle.route_walks.specs.Legal.{last_object}

-- whether x stands in the list
unfoldable pub has : List ℕ → ℕ → Bool
has [] x = false
has (y ∷ ys) x = eqb y x || has ys x

-- the lists that f gives for each of the xs, one after the other
unfoldable pub each : (ℕ → List (List ℕ)) → List ℕ → List (List ℕ)
each f [] = []
each f (x ∷ xs) = f x ++ each f xs

-- every walk that goes on from the walk p, whose last object is `from`, by the link `to`, with at most k objects more
-- 01: Form.7
unfoldable pub walks : (ℕ → Object) → ℕ → List ℕ → ℕ → ℕ → List (List ℕ)
walks v zero p from to = []
walks v (suc k) p from to =
    cond (eqb to 0 || has p to) [] ((p ++ (to ∷ [])) ∷ each (λ x. walks v k (p ++ (to ∷ [])) to x) (exits_of (v to) from))

-- every walk that goes on from p, whose last object is the turnout `at`, entered from `from`
-- 01: Form.7
unfoldable pub branches : (ℕ → Object) → ℕ → List ℕ → ℕ → ℕ → TurnoutLinks → List (List ℕ)
branches v k p from at t = each (λ x. walks v k p at x) (legs_of t from)

-- every partial walk from the boundary `start` with at most the limit of objects: start alone, and what goes on by its link
unfoldable pub all_walks : (ℕ → Object) → ℕ → ℕ → List (List ℕ)
all_walks v start zero = []
all_walks v start (suc k) = (start ∷ []) ∷ walks v k (start ∷ []) start (edge_link (v start))

-- whether a walk is a route
unfoldable pub is_route : (ℕ → Object) → List ℕ → Bool
is_route v w = ltb 1 (length w) && is_boundary (v (last_object w))

-- the routes among some walks
unfoldable pub routes_among : (ℕ → Object) → List (List ℕ) → List (List ℕ)
routes_among v [] = []
routes_among v (w ∷ ws) = cond (is_route v w) (w ∷ routes_among v ws) (routes_among v ws)

-- every route from the boundary `start`
abbrev pub all_routes : (ℕ → Object) → ℕ → ℕ → List (List ℕ)
all_routes v start limit = routes_among v (all_walks v start limit)

-- the words of some routes: each one's object count, and then the offsets
-- 01: List.6
unfoldable pub words_of : List (List ℕ) → List ℕ
words_of [] = []
words_of (w ∷ ws) = (length w ∷ w) ++ words_of ws
