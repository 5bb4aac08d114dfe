-- How the numbers of a listing and the bytes lent grow by some walks, and the range in which they stay.
use Rattle.std.specs.Prelude.{ℕ, ◌+◌, ◌*◌, ◌≤◌, ◌<◌, ◌≡◌, List, length}
use Rattle.route_graph.specs.declared.Object.{Object}
use Rattle.route_walks.specs.declared.Tally.{Tally}
use Rattle.route_walks.specs.Walks.{routes_among, words_of}
use Rattle.route_walks.specs.Lent.{lays}
use Rattle.route_walks.specs.Range.{limit_most}

abbrev pub nothing : Tally
nothing = record { walks = 0; routes = 0; words = 0 }

-- a tally that a pass may reach
pub record Sane (budget : ℕ) (t : Tally) : Type 0 where
  pub capped : t.walks ≤ budget + 1
  pub fewer : t.routes ≤ t.walks
  pub short : t.words ≤ (limit_most + 1) * t.walks

-- r is t with this many walks, routes and words more
pub record Counted (walks routes words : ℕ) (t r : Tally) : Type 0 where
  pub walks_are : r.walks ≡ t.walks + walks
  pub routes_are : r.routes ≡ t.routes + routes
  pub words_are : r.words ≡ t.words + words

-- r is t, and out' is out, after the walks ws: exactly, where they are within the budget; else r is beyond the budget
pub record Grown (v : ℕ → Object) (ws : List (List ℕ)) (budget : ℕ) (t r : Tally) (out out' : List ℕ) : Type 0 where
  pub sane : Sane budget r
  pub grows : t.walks ≤ r.walks
  pub beyond : budget < t.walks + length ws → budget < r.walks
  pub counted : t.walks + length ws ≤ budget → Counted (length ws) (length (routes_among v ws)) (length (words_of (routes_among v ws))) t r
  pub out-is : t.walks + length ws ≤ budget → out' ≡ lays out t.words (words_of (routes_among v ws))
