-- What a listing promises, in 01's words: the routes are all routes, each once and in their order; the number of walks is that of all
-- partial walks; the bytes lent hold, per route, its object count and then the offsets, as 16-bit words with the low byte first, and what
-- stands after the list is untouched. `before` and `after` are the bytes lent.
use Rattle.std.specs.Prelude.{ℕ, ◌*◌, ◌≤◌, ◌<◌, ◌≡◌, Bool, true, List, length, get_or, drop}
use Rattle.octets.specs.Octets.{num_at}
use Rattle.route_graph.specs.declared.Object.{Object}
use Rattle.route_walks.specs.declared.Tally.{Tally}
use Rattle.route_walks.specs.Legal.{Walk}
use Rattle.route_walks.specs.Walks.{words_of}
use Rattle.route_walks.specs.Lent.{word_size, room_of}
use Rattle.route_walks.specs.All.{Number, AllRoutes}
use Rattle.route_walks.specs.Range.{Bounds}

-- the question is in range: a boundary starts where it starts, and the limit that is meant and the budget are ones that may be asked with
pub record Within (asked : Bool) (limit budget : ℕ) : Type 0 where
  pub boundary : asked ≡ true
  pub bounds : Bounds limit budget

-- 01: Account.6
pub record Listing (v : ℕ → Object) (start limit budget : ℕ) (t : Tally) (before after : List ℕ) : Type 0 where
  pub routes : List (List ℕ)
  pub all : AllRoutes v start limit routes
  -- 01: List.5
  pub routes_are : t.routes ≡ length routes
  -- 01: List.5
  pub words_are : t.words ≡ length (words_of routes)
  -- 01: List.5
  pub walks_are : Number (Walk v start limit) t.walks
  -- 01: No.14
  pub within : t.walks ≤ budget
  -- 01: No.15
  pub room : t.words ≤ room_of before
  -- each word of the list, read from its two bytes
  -- 01: List.6
  pub held : (i : ℕ) → i < t.words → num_at word_size after (word_size * i) ≡ get_or (words_of routes) i 0
  -- as many bytes as before, and those after the list as they were
  -- 01: List.7
  pub whole : length after ≡ length before
  -- 01: List.7
  pub untouched : drop (word_size * t.words) after ≡ drop (word_size * t.words) before
