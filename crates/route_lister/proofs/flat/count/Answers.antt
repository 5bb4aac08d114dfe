-- `route_lister::count` meets its contract.
use Rattle.route_lister.specs.inner.Choices.{Taken}
use Rattle.route_lister.proofs.flat.count.Goals as goal
use native.Mathlib.Omega.{arith}
use mathlib.Core.Path.{refl}
use mathlib.Core.Bool.{not}
use mathlib.Core.Path.{ap}
use borrow.Author.Tests.{not-true, not-false}

pub returns-then-not-is_boundary-clause-counted : goal.returns-then-not-is_boundary-clause-counted
unfolding Taken
returns-then-not-is_boundary-clause-counted c = let e = not-true c.is_boundary.result (ap not c.if-not-is_boundary.true) in
    rw (← c.is_boundary.ensures, e) (record { walks_are = refl; routes_are = omega arith; words_are = omega arith })

pub returns-clause-counted : goal.returns-clause-counted
unfolding Taken
returns-clause-counted c = let e = not-false c.is_boundary.result (ap not c.if-not-is_boundary.false) in
    rw (← c.is_boundary.ensures, e) (record { walks_are = refl; routes_are = refl; words_are = refl })
