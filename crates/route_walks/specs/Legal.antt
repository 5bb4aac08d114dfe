-- What a partial walk and a route are (01, 'Routes'), with no word on how they are found. `v` says what stands at a place.
use Rattle.std.specs.Prelude.{ℕ, ◌≤◌, ◌≡◌, true, length}
use mathlib.Core.List.{List, [], ◌∷◌, ◌++◌, Memᴰ}
use Rattle.route_graph.specs.declared.TurnoutLinks.{TurnoutLinks}
use Rattle.route_graph.specs.declared.Object.{Object}
use Rattle.route_graph.specs.declared.Object.TheVariants.{Turnout}
use Rattle.route_graph.specs.Objects.{edge_link, is_boundary}
use Rattle.route_graph.specs.Ways.{LeftBy}

-- Each object after the first is named by a link by which the one before it is left, as that was entered; the first was entered from
-- `from`. Link 0 ends the way.
-- 01: Routes.5
unfoldable pub Follows : (ℕ → Object) → ℕ → List ℕ → Type 0
Follows v from [] = Unit {0}
Follows v from (a ∷ []) = Unit {0}
Follows v from (a ∷ b ∷ w) = LeftBy (v a) from b × (¬ (b ≡ 0)) × Follows v a (b ∷ w)

-- what follows the boundary asked for, which is left by its link
-- 01: Routes.5, Routes.9
unfoldable pub FromStart : (ℕ → Object) → ℕ → List ℕ → Type 0
FromStart v start [] = Unit {0}
FromStart v start (b ∷ w) = (b ≡ edge_link (v start)) × (¬ (b ≡ 0)) × Follows v start (b ∷ w)

-- nothing stands twice
-- 01: Routes.7
unfoldable pub NoneTwice : {A : Type 0} → List A → Type 0
NoneTwice [] = Unit {0}
NoneTwice (a ∷ w) = (¬ Memᴰ a w) × NoneTwice w

-- the last of a list
unfoldable pub last_object : List ℕ → ℕ
last_object [] = 0
last_object (x ∷ []) = x
last_object (x ∷ y ∷ l) = last_object (y ∷ l)

-- w is a partial walk from the boundary `start`
pub record Walk (v : ℕ → Object) (start limit : ℕ) (w : List ℕ) : Type 0 where
  -- it is a list of objects from the boundary asked for
  pub rest : List ℕ
  -- 01: Routes.1
  pub is : w ≡ start ∷ rest
  -- 01: Routes.1
  pub led : FromStart v start rest
  -- no object stands twice
  -- 01: Routes.7
  pub once : NoneTwice w
  -- the list has at most the limit of objects
  -- 01: Routes.8
  -- 02: Ticket8.1
  pub short : length w ≤ limit

-- w is a route: a partial walk of two or more objects that ends at a boundary
-- 01: Routes.10
pub record Route (v : ℕ → Object) (start limit : ℕ) (w : List ℕ) : Type 0 where
  pub walk : Walk v start limit w
  pub two : 2 ≤ length w
  pub ends : is_boundary (v (last_object w)) ≡ true

-- a and b part at the turnout `at`: they are the same up to it, and a leaves it by normal and b by reverse
-- 01: Routes.11
pub record PartAtTurnout (v : ℕ → Object) (a b : List ℕ) : Type 0 where
  pub same : List ℕ
  pub at : ℕ
  pub links : TurnoutLinks
  pub turnout : v at ≡ Turnout links
  pub after : List ℕ
  pub after' : List ℕ
  pub by_normal : a ≡ same ++ (at ∷ links.normal ∷ after)
  pub by_reverse : b ≡ same ++ (at ∷ links.reverse ∷ after')
