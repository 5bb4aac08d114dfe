-- What a line leaves: as many words as before, among which the words of the routes end.
use Prim.Native.Nat.{ℕ, suc, ◌+◌, ◌-◌, ◌≤◌}
use native.Mathlib.Omega.{arith}
use mathlib.Core.Path.{◌≡◌, refl, ap, ◌∙◌}
use mathlib.Core.Bool.{Bool, true, false}
use mathlib.Core.List.{List, ◌∷◌, ◌++◌}
use lib.ListN.{length, take, drop, length-append, length-drop}
use lib.Seq.{length-take-le}
use borrow.Author.Tests.{leb-false}
use Rattle.std.specs.Prelude.{Result, Ok, Err}
use Rattle.plan_lines.specs.declared.Line.{Line}
use Rattle.plan_lines.specs.declared.Line.TheVariants as line
use Rattle.plan_lines.specs.declared.Slip.{Slip}
use Rattle.plan_lines.specs.declared.Slip.TheVariants as slip
use Rattle.plan_lines.specs.Lines.{line_of, offsets_in}
use Rattle.plan_routes.specs.Routes.{among}
use Rattle.plan_reading.specs.declared.Reading.{Reading}
use Rattle.plan_reading.specs.declared.Taken.{Taken}
use Rattle.plan_reading.specs.Reading.{is_elsewhere, end_of, routes_so_far, is_full, route_by, route_taken, taken_by, taken_of, laid, route_laid, route_left, left_by, plan_after}

-- the words of a route, where there is room for them
laid_length : (route : List ℕ) (at : ℕ) (plan : List ℕ) → at + suc (length route) ≤ length plan → length (laid route at plan) ≡ length plan
laid_length route at plan h =
    let front = take at plan ++ (length route ∷ route) in
    omega (
      arith,
      length-append front (drop (at + suc (length route)) plan),
      length-append (take at plan) (length route ∷ route),
      length-take-le at plan (omega arith),
      length-drop (at + suc (length route)) plan,
    )

module _ (route : List ℕ) (r : Reading) (plan : List ℕ) where
  room_left : is_full route r plan ≡ false → end_of r plan + suc (length route) ≤ length plan
  room_left e = omega (arith, leb-false (length plan - end_of r plan) (length route) e)

  -- a route leaves as many words, and the words of the routes end among them
  route_within : r.words ≤ length plan → (length (route_left route r plan) ≡ length plan) × ((route_taken route r plan).reading.words ≤ length plan)
  unfolding route_by route_laid
  route_within h = by_tests (is_elsewhere route r.start) (among (routes_so_far r plan) route) (is_full route r plan) refl
    where
      by_tests : (e a f : Bool) → is_full route r plan ≡ f
          → (length (route_laid e a f route (end_of r plan) plan) ≡ length plan) × ((route_by e a f route r plan).reading.words ≤ length plan)
      by_tests true a f q = (refl, h)
      by_tests false true f q = (refl, h)
      by_tests false false true q = (refl, h)
      by_tests false false false q = (laid_length route (end_of r plan) plan (room_left q), room_left q)

  line_within : (l : Result Line Slip) → r.words ≤ length plan → (length (left_by l route r plan) ≡ length plan) × ((taken_by l route r plan).reading.words ≤ length plan)
  unfolding taken_by left_by
  line_within (Ok line.Empty) h = (refl, h)
  line_within (Ok (line.From start)) h = (refl, h)
  line_within (Ok (line.Route n)) h = route_within h
  line_within (Err slip.From) h = (refl, h)
  line_within (Err s) h = (refl, h)

-- THEOREM: a plan keeps its length, and the words of its routes end inside it
pub within : (text : List ℕ) (r : Reading) (plan : List ℕ) → r.words ≤ length plan → (length (plan_after text r plan) ≡ length plan) × ((taken_of text r plan).reading.words ≤ length plan)
within text r plan h = line_within (offsets_in text) r plan (line_of text) h

-- the same of what a caller sees
pub within_after : (text : List ℕ) (r : Reading) (plan : List ℕ) (t : Taken) (plan' : List ℕ) → r.words ≤ length plan → t ≡ taken_of text r plan → plan' ≡ plan_after text r plan → (t.reading.words ≤ length plan') × (length plan' ≡ length plan)
within_after text r plan t plan' h e e' =
    let w = within text r plan h in
    let l : length plan' ≡ length plan = ap length e' ∙ w.0 in
    (rw (e, l) w.1, l)
