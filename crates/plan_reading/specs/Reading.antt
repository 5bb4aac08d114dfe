-- A plan, read line by line (docs/PLAN.md): what a line says with those above it. `r` is how far the plan is read: the start that holds, and
-- how many words the routes take; these words stand at the front of `plan`.
use Rattle.std.specs.Prelude.{ℕ, suc, ◌+◌, ◌-◌, min, Bool, true, false, not, List, [], ◌∷◌, ◌++◌, Option, None, Some, Result, Ok, Err, length, take, drop, leb}
use Rattle.plan_lines.specs.declared.Line.{Line}
use Rattle.plan_lines.specs.declared.Line.TheVariants as line
use Rattle.plan_lines.specs.declared.Slip.{Slip}
use Rattle.plan_lines.specs.declared.Slip.TheVariants as slip
use Rattle.plan_lines.specs.Lines.{line_of, offsets_in}
use Rattle.plan_routes.specs.Routes.{routes_in, among, starts_at}
use Rattle.plan_reading.specs.declared.Reading.{Reading}
use Rattle.plan_reading.specs.declared.Said.TheVariants as said
use Rattle.plan_reading.specs.declared.Taken.{Taken}

-- ---- a route with the lines above it

-- a start holds, and the route starts elsewhere
unfoldable pub is_elsewhere : List ℕ → Option ℕ → Bool
is_elsewhere route None = false
is_elsewhere route (Some start) = not (starts_at start route)

-- where the words of the routes end, and these routes
abbrev pub end_of : Reading → List ℕ → ℕ
end_of r plan = min r.words (length plan)

abbrev pub routes_so_far : Reading → List ℕ → List (List ℕ)
routes_so_far r plan = routes_in (take (end_of r plan) plan)

-- there is no room for a route and its count
abbrev pub is_full : List ℕ → Reading → List ℕ → Bool
is_full route r plan = leb (length plan - end_of r plan) (length route)

-- the first offset of a route
unfoldable pub first_of : List ℕ → ℕ
first_of [] = 0
first_of (x ∷ route) = x

-- ---- what a line says, and how far the plan is read after it

-- a wrong line is passed over
abbrev pub wrong_by : Slip → Reading → Taken
wrong_by s r = record { said = Err s; reading = r }

-- a route that starts elsewhere, stands among those so far, or finds no room is wrong; else it takes its words
unfoldable pub route_by : Bool → Bool → Bool → List ℕ → Reading → List ℕ → Taken
route_by true again full route r plan = wrong_by slip.Elsewhere r
route_by false true full route r plan = wrong_by slip.Again r
route_by false false true route r plan = wrong_by slip.NoRoom r
route_by false false false route r plan =
    record { said = Ok (said.Route (first_of route)); reading = record { start = r.start; words = end_of r plan + suc (length route) } }

abbrev pub route_taken : List ℕ → Reading → List ℕ → Taken
route_taken route r plan =
    route_by (is_elsewhere route r.start) (among (routes_so_far r plan) route) (is_full route r plan) route r plan

-- a line 'from' names a start and sets it; after a wrong one no start holds
-- 02: Ticket8.4
unfoldable pub taken_by : Result Line Slip → List ℕ → Reading → List ℕ → Taken
taken_by (Ok line.Empty) route r plan = record { said = Ok said.Nothing; reading = r }
taken_by (Ok (line.From start)) route r plan = record { said = Ok (said.Start start); reading = record { start = Some start; words = r.words } }
taken_by (Ok (line.Route n)) route r plan = route_taken route r plan
taken_by (Err slip.From) route r plan = record { said = Err slip.From; reading = record { start = None; words = r.words } }
taken_by (Err s) route r plan = wrong_by s r

abbrev pub taken_of : List ℕ → Reading → List ℕ → Taken
taken_of text r plan = taken_by (line_of text) (offsets_in text) r plan

-- ---- the words lent

-- the words of a route go after those of the routes so far, in the place of as many
abbrev pub laid : List ℕ → ℕ → List ℕ → List ℕ
laid route at plan = take at plan ++ (length route ∷ route) ++ drop (at + suc (length route)) plan

unfoldable pub route_laid : Bool → Bool → Bool → List ℕ → ℕ → List ℕ → List ℕ
route_laid true again full route at plan = plan
route_laid false true full route at plan = plan
route_laid false false true route at plan = plan
route_laid false false false route at plan = laid route at plan

abbrev pub route_left : List ℕ → Reading → List ℕ → List ℕ
route_left route r plan =
    route_laid (is_elsewhere route r.start) (among (routes_so_far r plan) route) (is_full route r plan) route (end_of r plan) plan

unfoldable pub left_by : Result Line Slip → List ℕ → Reading → List ℕ → List ℕ
left_by (Ok line.Empty) route r plan = plan
left_by (Ok (line.From start)) route r plan = plan
left_by (Ok (line.Route n)) route r plan = route_left route r plan
left_by (Err s) route r plan = plan

abbrev pub plan_after : List ℕ → Reading → List ℕ → List ℕ
plan_after text r plan = left_by (line_of text) (offsets_in text) r plan
