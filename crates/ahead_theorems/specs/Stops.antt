-- Why the list stops, seen from its end (02, ticket 9): what holds of the object o that stands last, entered from `from`, for each of the six stops.
use Rattle.std.specs.Prelude.{ℕ, ◌≡◌, true, ◌⊎◌, length}
use mathlib.Core.List.{List, ◌∷◌, Memᴰ}
use Rattle.route_graph.specs.declared.TurnoutLinks.{TurnoutLinks}
use Rattle.route_graph.specs.declared.Object.{Object}
use Rattle.route_graph.specs.declared.Object.TheVariants.{Turnout}
use Rattle.route_graph.specs.Objects.{is_boundary}
use Rattle.ahead.specs.declared.Stop.{Stop}
use Rattle.ahead.specs.declared.Stop.TheVariants as stop
use Rattle.ahead.specs.Lies.{normal, reverse, unknown, lie_of}
use Rattle.ahead.specs.Ways.{LeadsOn}
use Rattle.ahead.specs.Ahead.{objects_most}

-- 02: Ticket9.3
unfoldable pub EndsFor : Object → ℕ → List ℕ → ℕ → List ℕ → Stop → Type 0
-- it is a boundary
EndsFor o from lies passed objects stop.Boundary = is_boundary o ≡ true
-- it is left by a missing link
EndsFor o from lies passed objects stop.NoLink = LeadsOn o from lies 0
-- it is a turnout, entered at the front, whose lie is unknown
EndsFor o from lies passed objects stop.UnknownLie = (t : TurnoutLinks) × (o ≡ Turnout t) × (t.front ≡ from) × (lie_of lies t.number ≡ unknown)
-- it is left to an object that is listed already or was last passed
EndsFor o from lies passed objects stop.Repeated = (y : ℕ) × LeadsOn o from lies y × (y ≡ 0 → ⊥) × Memᴰ y (passed ∷ objects)
-- it is a turnout, entered at a leg, that lies for the other
EndsFor o from lies passed objects stop.AgainstLie =
    (t : TurnoutLinks) × (o ≡ Turnout t)
    × (((t.normal ≡ from) × (lie_of lies t.number ≡ reverse)) ⊎ ((t.reverse ≡ from) × (lie_of lies t.number ≡ normal)))
-- it is the sixty-fourth, and is left to a new one
EndsFor o from lies passed objects stop.Full =
    (y : ℕ) × LeadsOn o from lies y × (y ≡ 0 → ⊥) × (Memᴰ y (passed ∷ objects) → ⊥) × (length objects ≡ objects_most)
