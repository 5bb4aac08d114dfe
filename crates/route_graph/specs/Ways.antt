-- How an object is left, by where it was entered from (01, 'Routes'): in 01's words, and as the list of links in 01's order.
-- A place that is entered from another is told by its offset: no two links of one object name the same target.
use Rattle.std.specs.Prelude.{ℕ, ◌≡◌, cond, ◌⊎◌, List, [], ◌∷◌, eqb}
use Rattle.route_graph.specs.declared.PlainLinks.{PlainLinks}
use Rattle.route_graph.specs.declared.TurnoutLinks.{TurnoutLinks}
use Rattle.route_graph.specs.declared.Object.{Object}
use Rattle.route_graph.specs.declared.Object.TheVariants.{Boundary, Plain, Turnout, Nothing}

-- ---- in 01's words: the object, entered from `from`, is left by the link x

-- 01: Routes.2, Routes.3, Routes.4, Routes.6
unfoldable pub LeftBy : Object → ℕ → ℕ → Type 0
-- a boundary reached has nothing after it
LeftBy (Boundary link) from x = ⊥
-- a plain object is left by the link it wasn't entered by
LeftBy (Plain p) from x = ((p.previous ≡ from) × (x ≡ p.next)) ⊎ ((p.next ≡ from) × (x ≡ p.previous))
-- a turnout entered at the front is left by normal or reverse; entered at either leg it is left by the front
LeftBy (Turnout t) from x =
    ((t.front ≡ from) × ((x ≡ t.normal) ⊎ (x ≡ t.reverse))) ⊎ (((t.normal ≡ from) ⊎ (t.reverse ≡ from)) × (x ≡ t.front))
LeftBy Nothing from x = ⊥

-- ---- the links themselves, normal before reverse

unfoldable pub onward_of : PlainLinks → ℕ → ℕ
onward_of p from = cond (eqb p.previous from) p.next p.previous

unfoldable pub legs_of : TurnoutLinks → ℕ → List ℕ
legs_of t from = cond (eqb t.front from) (t.normal ∷ t.reverse ∷ []) (t.front ∷ [])

unfoldable pub exits_of : Object → ℕ → List ℕ
exits_of (Boundary link) from = []
exits_of (Plain p) from = onward_of p from ∷ []
exits_of (Turnout t) from = legs_of t from
exits_of Nothing from = []
