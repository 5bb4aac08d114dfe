-- A line that is wrong costs nothing but itself: the plan is after it as it was before, but that after one that begins with 'from' no start holds.
use Prim.Native.Nat.{ℕ}
use native.Mathlib.Omega.{arith}
use mathlib.Core.Path.{◌≡◌, refl, ap, ap₂}
use mathlib.Core.Bool.{Bool, true, false}
use mathlib.Core.List.{List}
use Rattle.std.specs.Prelude.{Result, Ok, Err}
use Rattle.plan_lines.specs.declared.Line.{Line}
use Rattle.plan_lines.specs.declared.Line.TheVariants as line
use Rattle.plan_lines.specs.declared.Slip.{Slip}
use Rattle.plan_lines.specs.declared.Slip.TheVariants as slip
use Rattle.plan_lines.specs.Lines.{line_of, offsets_in}
use Rattle.plan_routes.specs.Routes.{among}
use Rattle.plan_reading.specs.declared.Reading.{Reading}
use Rattle.plan_reading.specs.declared.Said.TheVariants as said
use Rattle.plan_reading.specs.declared.Taken.{Taken}
use Rattle.plan_reading.specs.Reading.{is_elsewhere, routes_so_far, is_full, end_of, route_by, route_taken, route_laid, route_left, taken_by, left_by}
use Rattle.plan_reading.specs.ReadPlan.{ReadPlan, said_by, after_line}
use Rattle.plan_theorems.specs.PlanRoutes.{without_start}

module _ (route : List ℕ) (r : Reading) (plan : List ℕ) (s : Slip) where
  -- a wrong route
  route_passed : (route_taken route r plan).said ≡ Err s → ((route_taken route r plan).reading ≡ r) × (route_left route r plan ≡ plan)
  unfolding route_by route_laid
  route_passed e = by_tests (is_elsewhere route r.start) (among (routes_so_far r plan) route) (is_full route r plan) e
    where
      by_tests : (a b c : Bool) → (route_by a b c route r plan).said ≡ Err s → ((route_by a b c route r plan).reading ≡ r) × (route_laid a b c route (end_of r plan) plan ≡ plan)
      by_tests true b c q = (refl, refl)
      by_tests false true c q = (refl, refl)
      by_tests false false true q = (refl, refl)
      by_tests false false false q = let z : ◌≡◌ {A = ℕ} 0 1 = cc in absurd (omega arith)

  -- a wrong line that does not begin with 'from'
  line_passed : (l : Result Line Slip) → (taken_by l route r plan).said ≡ Err s → (s ≡ slip.From → ⊥) → ((taken_by l route r plan).reading ≡ r) × (left_by l route r plan ≡ plan)
  unfolding taken_by left_by
  line_passed (Ok line.Empty) e n = let z : ◌≡◌ {A = ℕ} 0 1 = cc in absurd (omega arith)
  line_passed (Ok (line.From start)) e n = let z : ◌≡◌ {A = ℕ} 0 1 = cc in absurd (omega arith)
  line_passed (Ok (line.Route k)) e n = route_passed e
  line_passed (Err slip.From) e n = absurd (n cc)
  line_passed (Err t) e n = (refl, refl)

-- THEOREM: after a wrong line that does not begin with 'from' the plan is what it was
pub passed_over : (p : ReadPlan) (text : List ℕ) (s : Slip) → said_by text p ≡ Err s → (s ≡ slip.From → ⊥) → after_line text p ≡ p
passed_over p text s e n =
    let k = line_passed (offsets_in text) p.reading p.lent s (line_of text) e n in
    ap₂ (λ (r : Reading) (l : List ℕ). record { reading = r; lent = l }) k.0 k.1

-- THEOREM: after one that does, no start holds, and all else is what it was
pub from_wrong : (p : ReadPlan) (text : List ℕ) → line_of text ≡ Err slip.From → (said_by text p ≡ Err slip.From) × (after_line text p ≡ without_start p)
unfolding taken_by left_by
from_wrong p text e =
    let taken : Result Line Slip → Taken = λ l. taken_by l (offsets_in text) p.reading p.lent in (
      ap (λ (l : Result Line Slip). (taken l).said) e,
      ap (λ (l : Result Line Slip). record { reading = (taken l).reading; lent = left_by l (offsets_in text) p.reading p.lent }) e,
    )
