-- Where a balise starts, of those that stand without gaps from a place on.
use Rattle.std.specs.Prelude.{ℕ, ◌+◌, List}
use Rattle.verdict.specs.Facts.{Claim, same, some}
use Rattle.verdict.specs.Walk.{starts_from}
use Rattle.x2_layout.specs.Facts.{balise_bytes}

-- a balise starts at x, of those that stand without gaps from a place on
unfoldable pub balise_starts : List ℕ → ℕ → ℕ → Claim
balise_starts f from x = some (starts_from (balise_bytes f) (x + 1) from) (λ s. same s x)
