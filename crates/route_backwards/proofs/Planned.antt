-- The engineer's plan read backwards (docs/PLAN.md): where file and plan agree on the routes from two boundaries, the plan has each route between
-- them both ways.
use Prim.Native.Nat.{ℕ}
use mathlib.Core.Path.{◌≡◌}
use mathlib.Core.List.{List, reverse}
use Rattle.std.specs.Prelude.{Ok, Err}
use Rattle.x2_verdict.specs.Facts.{verdict_of}
use Rattle.route_walks.specs.Legal.{last_object}
use Rattle.route_lister.specs.Answered.{limit_of}
use Rattle.route_theorems.specs.Asked.{BoundaryHere}
use Rattle.plan_theorems.specs.Agree.{Planned, From, Agree}
use Rattle.route_backwards.proofs.Backwards.{routes_back}

-- THEOREM: a route of the plan from a to b stands in the plan from b to a as well
pub planned_back : (f plan : List ℕ) → verdict_of f ≡ Ok tt → (a b limit : ℕ) → BoundaryHere f a → BoundaryHere f b → Agree f plan a limit → Agree f plan b limit
    → (w : List ℕ) → Planned plan w → From a w → last_object w ≡ b → Planned plan (reverse w)
planned_back f plan e a b limit here there from-a from-b w p s last =
    from-b.planned (reverse w) ((routes_back f e a b here there (limit_of limit) w).0 (record { route = from-a.legal w p s; ends_at = last })).route
