-- How the list goes on from an object that it has reached, by where that was entered from and by the lies (02, ticket 9): in the ticket's words,
-- and computed.
use Rattle.std.specs.Prelude.{ℕ, ◌≡◌, cond, ◌⊎◌, List, eqb}
use Rattle.route_graph.specs.declared.TurnoutLinks.{TurnoutLinks}
use Rattle.route_graph.specs.declared.Object.{Object}
use Rattle.route_graph.specs.declared.Object.TheVariants.{Boundary, Plain, Turnout, Nothing}
use Rattle.route_graph.specs.Ways.{onward_of}
use Rattle.ahead.specs.declared.Stop.{Stop}
use Rattle.ahead.specs.declared.Stop.TheVariants as stop
use Rattle.std.specs.Prelude.{Result, Ok, Err}
use Rattle.ahead.specs.Lies.{normal, reverse, unknown, lie_of}

-- ---- in the ticket's words

-- the object, entered from `from`, is left by the link x
-- 02: Ticket9.2
unfoldable pub LeadsOn : Object → ℕ → List ℕ → ℕ → Type 0
-- a boundary has nothing after it
LeadsOn (Boundary link) from lies x = ⊥
-- a plain object is left by the link it wasn't entered by
LeadsOn (Plain p) from lies x = ((p.previous ≡ from) × (x ≡ p.next)) ⊎ ((p.next ≡ from) × (x ≡ p.previous))
-- a turnout entered at the front is left as it lies; entered at a leg it is left by the front, unless it is known to lie for the other: a leg
-- trailed with the lie unknown is passed
LeadsOn (Turnout t) from lies x =
    ((t.front ≡ from) × (((lie_of lies t.number ≡ normal) × (x ≡ t.normal)) ⊎ ((lie_of lies t.number ≡ reverse) × (x ≡ t.reverse))))
    ⊎ (((t.normal ≡ from) × (lie_of lies t.number ≡ reverse → ⊥) × (x ≡ t.front))
    ⊎ ((t.reverse ≡ from) × (lie_of lies t.number ≡ normal → ⊥) × (x ≡ t.front)))
LeadsOn Nothing from lies x = ⊥

-- the list stops at the object, entered from `from`, which stands last in it
-- 02: Ticket9.3
unfoldable pub StopsAt : Object → ℕ → List ℕ → Stop → Type 0
-- at a boundary
StopsAt (Boundary link) from lies s = s ≡ stop.Boundary
StopsAt (Plain p) from lies s = ⊥
-- at an unknown lie met at the front, or at a leg trailed against a known lie
StopsAt (Turnout t) from lies s =
    ((t.front ≡ from) × (lie_of lies t.number ≡ unknown) × (s ≡ stop.UnknownLie))
    ⊎ (((t.normal ≡ from) × (lie_of lies t.number ≡ reverse) × (s ≡ stop.AgainstLie))
    ⊎ ((t.reverse ≡ from) × (lie_of lies t.number ≡ normal) × (s ≡ stop.AgainstLie)))
StopsAt Nothing from lies s = ⊥

-- ---- computed

-- on by a link, or no further
abbrev pub Way : Type 0
Way = Result ℕ Stop

-- through a turnout of a lie: entered at the front, and at a leg that is trailed against one of the lies
unfoldable pub front_of : TurnoutLinks → ℕ → Way
front_of t lie = cond (eqb lie normal) (Ok t.normal) (cond (eqb lie reverse) (Ok t.reverse) (Err stop.UnknownLie))

-- 02: Ticket9.4
unfoldable pub trail_of : TurnoutLinks → ℕ → ℕ → Way
trail_of t lie against = cond (eqb lie against) (Err stop.AgainstLie) (Ok t.front)

-- through a turnout that was entered from `from`
unfoldable pub leg_of : TurnoutLinks → ℕ → ℕ → Way
leg_of t from lie = cond (eqb t.front from) (front_of t lie) (cond (eqb t.normal from) (trail_of t lie reverse) (trail_of t lie normal))

-- from an object that was entered from `from`; a place where none stands is never reached in an accepted file
unfoldable pub way_of : Object → ℕ → List ℕ → Way
way_of (Boundary link) from lies = Err stop.Boundary
way_of (Plain p) from lies = Ok (onward_of p from)
way_of (Turnout t) from lies = leg_of t from (lie_of lies t.number)
way_of Nothing from lies = Ok 0
