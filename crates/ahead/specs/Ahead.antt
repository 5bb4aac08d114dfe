-- What lies ahead (02, ticket 9), with no word on how it is found. `v` says what stands at a place, `passed` is the object last passed.
use Rattle.std.specs.Prelude.{ℕ, ◌<◌, ◌≡◌, ◌⊎◌, length}
use mathlib.Core.List.{List, [], ◌∷◌, ◌++◌, Memᴰ}
use Rattle.route_graph.specs.declared.Object.{Object}
use Rattle.ahead.specs.declared.Stop.{Stop}
use Rattle.ahead.specs.declared.Stop.TheVariants as stop
use Rattle.ahead.specs.declared.Stop.TheVariants.{NoLink, Repeated, Full}
use Rattle.ahead.specs.Ways.{LeadsOn, StopsAt}

-- how many objects are listed at most, and how many bytes they then have
-- 02: Ticket9.6
abbrev pub objects_most : ℕ
objects_most = 64

-- 02: Ticket9.9
abbrev pub seen_bytes : ℕ
seen_bytes = 128

-- the number of a stop, from 1 in the ticket's order
-- 02: Ticket9.3
abbrev pub stop_number : Stop → ℕ
stop_number stop.Boundary = 1
stop_number stop.NoLink = 2
stop_number stop.UnknownLie = 3
stop_number stop.Repeated = 4
stop_number stop.AgainstLie = 5
stop_number stop.Full = 6

-- By the link `to` of the object `from` these objects follow in the list, and then it stops for s; `listed` stand in it before them.
-- 02: Ticket9.2
unfoldable pub Ahead : (ℕ → Object) → List ℕ → ℕ → List ℕ → ℕ → ℕ → List ℕ → Stop → Type 0
-- None follows: the link is missing; it names an object that is listed already or was last passed; or it names a new one, and 64 are listed.
Ahead v lies passed listed from to [] s =
    ((to ≡ 0) × (s ≡ NoLink))
    ⊎ (((to ≡ 0 → ⊥) × Memᴰ to (passed ∷ listed) × (s ≡ Repeated))
    ⊎ ((to ≡ 0 → ⊥) × (Memᴰ to (passed ∷ listed) → ⊥) × (length listed ≡ objects_most) × (s ≡ Full)))
-- The object x follows: the link names it, it is a new one, and fewer than 64 are listed. Then the list stops at it, or goes on by the link by
-- which it is left.
Ahead v lies passed listed from to (x ∷ xs) s =
    (x ≡ to) × (x ≡ 0 → ⊥) × (Memᴰ x (passed ∷ listed) → ⊥) × (length listed < objects_most)
    × ((StopsAt (v x) from lies s × (xs ≡ [])) ⊎ ((y : ℕ) × LeadsOn (v x) from lies y × Ahead v lies passed (listed ++ (x ∷ [])) x y xs s))
