-- What it is for an X.2 file and a plan to agree on the routes from a start (docs/PLAN.md), and what the numbers of a comparison count. Routes
-- are 01's (crate route_walks), over what stands at the places of the file; the plan is the routes that its words hold.
use Rattle.std.specs.Prelude.{ℕ, ◌-◌, ◌≤◌, ◌≡◌}
use mathlib.Core.List.{List, ◌∷◌, Memᴰ}
use Rattle.x2_layout.specs.Layout.{layout_of}
use Rattle.route_graph.specs.Objects.{object_at}
use Rattle.route_walks.specs.Legal.{NoneTwice, Route}
use Rattle.route_walks.specs.All.{Number}
use Rattle.route_lister.specs.Answered.{limit_of}
use Rattle.plan_routes.specs.Routes.{routes_in}
use Rattle.plan_question.specs.declared.Compared.{Compared}

-- w is a legal route of the file from the start, of at most the limit that is meant
abbrev pub Legal : List ℕ → ℕ → ℕ → List ℕ → Type 0
Legal f start limit w = Route (object_at f (layout_of f)) start (limit_of limit) w

-- w stands in the plan
abbrev pub Planned : List ℕ → List ℕ → Type 0
Planned plan w = Memᴰ w (routes_in plan)

-- w is from the start
pub record From (start : ℕ) (w : List ℕ) : Type 0 where
  pub rest : List ℕ
  pub is : w ≡ start ∷ rest

-- 02: Ticket8.4
pub record Agree (f plan : List ℕ) (start limit : ℕ) : Type 0 where
  -- every legal route stands in the plan
  pub planned : (w : List ℕ) → Legal f start limit w → Planned plan w
  -- every route of the plan from this start is legal
  pub legal : (w : List ℕ) → Planned plan w → From start w → Legal f start limit w

-- 02: Ticket8.4
pub record Counted (f plan : List ℕ) (start limit : ℕ) (c : Compared) : Type 0 where
  -- the legal routes
  pub routes : Number (Legal f start limit) c.routes
  -- those that do not stand in the plan, and those that do
  pub extra : Number (λ w. Legal f start limit w × (¬ Planned plan w)) c.extra
  pub both : Number (λ w. Legal f start limit w × Planned plan w) (c.routes - c.extra)
  pub within : c.extra ≤ c.routes
  -- those of the plan from this start that are not legal, where none stands twice in the plan
  pub missing : NoneTwice (routes_in plan) → Number (λ w. Planned plan w × From start w × (¬ Legal f start limit w)) c.missing
