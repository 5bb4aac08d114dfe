-- The routes that the words lent hold once lines of a plan are read (docs/PLAN.md; crate plan_reading says what a line does), and what is to
-- hold of them.
use Rattle.std.specs.Prelude.{ℕ, ◌≤◌, ◌≡◌, None, Result, Ok, Err, length, take}
use mathlib.Core.List.{List, [], ◌∷◌, ◌++◌, Memᴰ}
use Rattle.route_walks.specs.Legal.{NoneTwice}
use Rattle.route_walks.specs.Walks.{words_of}
use Rattle.plan_lines.specs.declared.Slip.{Slip}
use Rattle.plan_lines.specs.Lines.{route_least, route_most, offsets_in}
use Rattle.plan_routes.specs.Routes.{routes_in}
use Rattle.plan_reading.specs.declared.Said.{Said}
use Rattle.plan_reading.specs.declared.Said.TheVariants as said
use Rattle.plan_reading.specs.ReadPlan.{ReadPlan, said_by, after_line}

-- the same plan, with no start that holds
abbrev pub without_start : ReadPlan → ReadPlan
without_start p = record { reading = record { start = None; words = p.reading.words }; lent = p.lent }

-- ---- the routes

-- the words of the routes, which stand at the front of those lent, and the routes
abbrev pub plan_words : ReadPlan → List ℕ
plan_words p = take p.reading.words p.lent

abbrev pub plan_routes : ReadPlan → List (List ℕ)
plan_routes p = routes_in (plan_words p)

-- what a line adds to them that says this: its offsets, where it says a route
unfoldable pub route_said : Result Said Slip → List ℕ → List (List ℕ)
route_said (Ok said.Nothing) offsets = []
route_said (Ok (said.Start start)) offsets = []
route_said (Ok (said.Route start)) offsets = offsets ∷ []
route_said (Err slip) offsets = []

-- the offsets of the lines that say a route, in the order of the lines
unfoldable pub routes_said : List (List ℕ) → ReadPlan → List (List ℕ)
routes_said [] p = []
routes_said (line ∷ lines) p = route_said (said_by line p) (offsets_in line) ++ routes_said lines (after_line line p)

-- 02: Ticket8.4
pub record Whole (p : ReadPlan) : Type 0 where
  -- the words end inside those lent, and are those of whole routes
  pub within : p.reading.words ≤ length p.lent
  pub whole : plan_words p ≡ words_of (plan_routes p)
  -- no route stands twice
  pub once : NoneTwice (plan_routes p)
  -- each has 2 to 512 objects
  pub sizes : (w : List ℕ) → Memᴰ w (plan_routes p) → (route_least ≤ length w) × (length w ≤ route_most)
