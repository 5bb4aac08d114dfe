-- What the question 'routes' asks of its own, after the file's own fault (01: 'A question ..' and 'Routes'), in the order in which it is
-- judged: 13, 14 and 15, each with place 0. Partial walks and routes are 01's (crate route_walks), over what stands at the places of the
-- file.
use Rattle.std.specs.Prelude.{ℕ, ◌≤◌, ◌≡◌, ◌⊎◌, length}
use mathlib.Core.List.{List, [], ◌∷◌, Memᴰ}
use Rattle.verdict.specs.Order.{Check, check}
use Rattle.x2_records.specs.declared.Kind.TheVariants.{StartBoundary, EndBoundary}
use Rattle.x2_layout.specs.Layout.{layout_of}
use Rattle.x2_layout.specs.Records.{kind_at, starts}
use Rattle.route_graph.specs.Objects.{object_at}
use Rattle.route_walks.specs.Legal.{Walk}
use Rattle.route_walks.specs.Walks.{words_of}
use Rattle.route_walks.specs.All.{Number, AllRoutes}
use Rattle.route_lister.specs.Answered.{limit_of}

-- a boundary starts at x, of either kind
-- 01: List.4
pub record BoundaryHere (f : List ℕ) (x : ℕ) : Type 0 where
  pub record_there : Memᴰ x (starts f (layout_of f))
  -- 01: Routes.1
  pub either_kind : (kind_at (layout_of f) x ≡ StartBoundary) ⊎ (kind_at (layout_of f) x ≡ EndBoundary)

-- the question is in range: the limit is 2 to 512 or 0, the budget 1 to 65,535
-- 01: List.4
pub record InRange (f : List ℕ) (start limit budget : ℕ) : Type 0 where
  pub boundary : BoundaryHere f start
  -- 01: List.1, List.2
  -- 02: Ticket8.6
  pub limit_asked : (limit ≡ 0) ⊎ ((2 ≤ limit) × (limit ≤ 512))
  -- 01: List.3
  pub budget_asked : (1 ≤ budget) × (budget ≤ 65535)

-- the steps are not too many: the number of all partial walks is at most the budget
-- 01: No.14, Case.12, Form.1
pub record StepsFew (f : List ℕ) (start limit budget : ℕ) : Type 0 where
  pub walks : ℕ
  pub number : Number (Walk (object_at f (layout_of f)) start (limit_of limit)) walks
  pub few : walks ≤ budget

-- there is room: the words of all routes are at most as many as find room
-- 01: No.15, Case.13
pub record RoomEnough (f : List ℕ) (start limit room : ℕ) : Type 0 where
  pub routes : List (List ℕ)
  pub all : AllRoutes (object_at f (layout_of f)) start (limit_of limit) routes
  pub enough : length (words_of routes) ≤ room

-- 01: No.13, No.14, No.15, List.8
abbrev pub routes_checks : List ℕ → ℕ → ℕ → ℕ → ℕ → List Check
routes_checks f start limit budget room =
    check 13 (InRange f start limit budget) (λ p. p ≡ 0)
    ∷ check 14 (StepsFew f start limit budget) (λ p. p ≡ 0)
    ∷ check 15 (RoomEnough f start limit room) (λ p. p ≡ 0)
    ∷ []
