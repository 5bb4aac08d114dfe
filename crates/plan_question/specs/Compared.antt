-- The routes of an X.2 file from a start beside a plan (docs/PLAN.md), for every input: why the question routes is refused; else how many
-- routes there are, and how many are missing and extra.
use Rattle.std.specs.Prelude.{ℕ, min, List, ◌++◌, Result, Ok, Err, length, drop}
use Rattle.verdict.specs.declared.Fault.{Fault}
use Rattle.x2_layout.specs.Layout.{layout_of}
use Rattle.route_graph.specs.Objects.{object_at}
use Rattle.route_walks.specs.Walks.{all_routes, words_of}
use Rattle.route_walks.specs.declared.Tally.{Tally}
use Rattle.std.specs.Prelude.{Ok, Err}
use Rattle.route_lister.specs.Answered.{RoutesAnswer, limit_of}
use Rattle.route_question.specs.Routes.{routes_asked}
use Rattle.plan_routes.specs.Routes.{routes_in, apart}
use Rattle.plan_question.specs.declared.Compared.{Compared as Counts}

-- as many words of a list there may be
abbrev pub most_room : ℕ
most_room = 65535

-- every route from a start, of at most the limit that is meant
abbrev pub routes_from : List ℕ → ℕ → ℕ → List (List ℕ)
routes_from f start limit = all_routes (object_at f (layout_of f)) start (limit_of limit)

-- missing: routes of the plan from the start that are not listed; extra: routes listed that are not in the plan
-- 02: Ticket8.4
abbrev pub counts_of : List (List ℕ) → ℕ → List (List ℕ) → Tally → Counts
counts_of plan start rs t = record { words = t.words; routes = t.routes; missing = apart plan start rs; extra = apart rs start plan }

-- 02: Ticket8.4
unfoldable pub compared_by : List (List ℕ) → ℕ → List (List ℕ) → RoutesAnswer → Result Counts Fault
compared_by plan start rs (Ok t) = Ok (counts_of plan start rs t)
compared_by plan start rs (Err t) = Err t

-- the words lent: those of the list stand in front; a refusal leaves every word as it was
unfoldable pub leaves_by : List ℕ → List ℕ → RoutesAnswer → List ℕ
leaves_by ws list (Ok t) = ws ++ drop (length ws) list
leaves_by ws list (Err t) = list

-- the answer, and the words lent after it, where the list has room for so many words
abbrev pub compared_in : List ℕ → ℕ → ℕ → ℕ → List ℕ → ℕ → Result Counts Fault
compared_in f start limit budget plan room =
    compared_by (routes_in plan) start (routes_from f start limit) (routes_asked f start limit budget room)

abbrev pub left_compared_in : List ℕ → ℕ → ℕ → ℕ → List ℕ → ℕ → List ℕ
left_compared_in f start limit budget list room = leaves_by (words_of (routes_from f start limit)) list (routes_asked f start limit budget room)

-- the same, where so many words are lent, of which no more are used than a list may have
-- 02: Ticket12.1
abbrev pub compared_asked : List ℕ → ℕ → ℕ → ℕ → List ℕ → ℕ → Result Counts Fault
compared_asked f start limit budget plan room = compared_in f start limit budget plan (min room most_room)

abbrev pub left_compared : List ℕ → ℕ → ℕ → ℕ → List ℕ → List ℕ
left_compared f start limit budget list = left_compared_in f start limit budget list (min (length list) most_room)
