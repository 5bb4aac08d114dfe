-- How far the places of a list of facts reach. A later fact may lean on the earlier ones: where one of those fails, the later one is never
-- reported, and its place is not asked for.
use Rattle.std.specs.Prelude.{ℕ, ◌^◌, ◌<◌, List, [], ◌∷◌}
use Rattle.verdict.specs.Facts.{Holds, Fact, fact}

-- every place that is reported is below this number
abbrev pub place_over : ℕ
place_over = 2 ^ 18

-- each fact's place is below n, as far as the facts before it hold
abbrev pub PlacesBelow : ℕ → List Fact → Type 0
PlacesBelow n [] = Unit {0}
PlacesBelow n (fact c m ∷ fs) = (m.place < n) × (Holds c → PlacesBelow n fs)
