-- What the functions of the recursion ask of a call and ensure. What they ask keeps every number and every index in its range.
use Rattle.std.specs.Prelude.{ℕ, ◌+◌, ◌≤◌, ◌≡◌, List, length, take}
use Rattle.x2_layout.specs.declared.Layout.{Layout}
use Rattle.route_graph.specs.declared.TurnoutLinks.{TurnoutLinks}
use Rattle.route_graph.specs.declared.regions.Ends.{Ends}
use Rattle.route_graph.specs.Objects.{object_at}
use Rattle.route_graph.specs.inner.Ends.{object_in}
use Rattle.route_walks.specs.declared.Tally.{Tally}
use Rattle.route_walks.specs.Walks.{walks, branches, all_walks}
use Rattle.route_walks.specs.Range.{limit_most, budget_most}
use Rattle.route_walks.specs.inner.Grown.{nothing, Sane, Grown}
use Rattle.route_lister.specs.inner.Marks.{Marked}

-- n objects stand in the path, the marks are right for them, and there is room for as many more as are left
pub record Ready (budget : ℕ) (marks path : List ℕ) (n left : ℕ) (t : Tally) : Type 0 where
  pub sane : Sane budget t
  pub few : budget ≤ budget_most
  pub begun : 1 ≤ n
  pub room : n + left ≤ length path
  pub small : n + left ≤ limit_most
  pub marked : Marked marks path n

-- path becomes path': the first n objects stand there as they did, and the marks are right for them
pub record Held (n : ℕ) (path path' marks' : List ℕ) : Type 0 where
  pub same : take n path' ≡ take n path
  pub marked : Marked marks' path' n

-- t becomes r, and out becomes out', by the walks that go on from the walk p by the link `to` of its last object, `from`
abbrev pub Followed : List ℕ → Ends → ℕ → ℕ → List ℕ → ℕ → ℕ → Tally → Tally → List ℕ → List ℕ → Type 0
Followed f e from to p left budget t r out out' = Grown (object_in f e) (walks (object_in f e) left p from to) budget t r out out'

-- the same, from the turnout `at`, the last object of p, which was entered at the front
abbrev pub Branched : List ℕ → Ends → ℕ → TurnoutLinks → List ℕ → ℕ → ℕ → Tally → Tally → List ℕ → List ℕ → Type 0
Branched f e at links p left budget t r out out' =
    Grown (object_in f e) (branches (object_in f e) left p links.front at links) budget t r out out'

-- the tally is r, and out becomes out', by all walks from `start`
abbrev pub PassedOver : List ℕ → Layout → ℕ → ℕ → ℕ → Tally → List ℕ → List ℕ → Type 0
PassedOver f l start limit budget r out out' = Grown (object_at f l) (all_walks (object_at f l) start limit) budget nothing r out out'
