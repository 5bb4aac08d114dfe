-- What it is for a list to have them all: the routes in their order, and the partial walks as a number.
use Rattle.std.specs.Prelude.{ℕ, ◌≡◌, length}
use mathlib.Core.List.{List, [], ◌∷◌, Memᴰ}
use Rattle.route_graph.specs.declared.Object.{Object}
use Rattle.route_walks.specs.Legal.{NoneTwice, Route, PartAtTurnout}

-- R holds of each element and every later one
-- 01: Routes.11
unfoldable pub Ordered : {A : Type 0} → (A → A → Type 0) → List A → Type 0
Ordered {A} R [] = Unit {0}
Ordered {A} R (a ∷ l) = ((b : A) → Memᴰ b l → R a b) × Ordered R l

-- the list has what P holds of, and nothing else, each once
-- 01: Account.6
pub record Exactly (P : List ℕ → Type 0) (ws : List (List ℕ)) : Type 0 where
  -- nothing else stands in it
  pub sound : (w : List ℕ) → Memᴰ w ws → P w
  -- none is missing
  pub complete : (w : List ℕ) → P w → Memᴰ w ws
  -- none stands twice
  pub once : NoneTwice ws

-- P holds of n lists
-- 01: List.5, Form.1
pub record Number (P : List ℕ → Type 0) (n : ℕ) : Type 0 where
  pub all : List (List ℕ)
  pub exactly : Exactly P all
  pub count : length all ≡ n

-- the list has all routes, and nothing else, each once and in their order: of two, the one that leaves by normal the turnout where they
-- part stands first
pub record AllRoutes (v : ℕ → Object) (start limit : ℕ) (ws : List (List ℕ)) : Type 0 where
  pub exactly : Exactly (Route v start limit) ws
  -- 01: Routes.11
  pub ordered : Ordered (PartAtTurnout v) ws
