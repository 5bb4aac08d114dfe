-- The routes that words hold, per route its object count and then the offsets (01, 'Routes'), and which of them do not stand among others.
use Rattle.std.specs.Prelude.{ℕ, zero, suc, ◌+◌, min, Bool, true, false, cond, not, ◌&&◌, ◌||◌, List, [], ◌∷◌, length, get_or, take, eqb}

-- the routes in some words, of which the first n are passed over; the last route may have fewer offsets than its count says
unfoldable pub routes_after : ℕ → List ℕ → List (List ℕ)
routes_after n [] = []
routes_after (suc n) (c ∷ ws) = routes_after n ws
routes_after zero (c ∷ ws) = take c ws ∷ routes_after c ws

-- 02: Ticket8.4
abbrev pub routes_in : List ℕ → List (List ℕ)
routes_in ws = routes_after zero ws

-- where the route ends whose count is the word at a place
abbrev pub route_end : List ℕ → ℕ → ℕ
route_end ws at = min (suc (at + get_or ws at 0)) (length ws)

-- two routes have the same objects in the same order
unfoldable pub same_route : List ℕ → List ℕ → Bool
same_route [] [] = true
same_route [] (y ∷ b) = false
same_route (x ∷ a) [] = false
same_route (x ∷ a) (y ∷ b) = eqb x y && same_route a b

-- a route stands among others
unfoldable pub among : List (List ℕ) → List ℕ → Bool
among [] r = false
among (q ∷ qs) r = same_route q r || among qs r

-- a route is from a start
unfoldable pub starts_at : ℕ → List ℕ → Bool
starts_at start [] = false
starts_at start (x ∷ r) = eqb x start

-- a route is from a start and does not stand among others
-- 02: Ticket8.4
abbrev pub is_apart : List ℕ → ℕ → List (List ℕ) → Bool
is_apart r start others = starts_at start r && not (among others r)

-- how many of some routes are so
unfoldable pub apart : List (List ℕ) → ℕ → List (List ℕ) → ℕ
apart [] start others = 0
apart (r ∷ rs) start others = cond (is_apart r start others) 1 0 + apart rs start others
