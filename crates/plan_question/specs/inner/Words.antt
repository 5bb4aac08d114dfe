-- The words that stand in some bytes, two for each, low byte first.
use Rattle.std.specs.Prelude.{ℕ, zero, suc, ◌*◌, List, [], ◌∷◌, ◌++◌}
use Rattle.octets.specs.Octets.{num_at}
use Rattle.route_walks.specs.Lent.{word_size}

-- the first n of them
unfoldable pub words_in : ℕ → List ℕ → List ℕ
words_in zero s = []
words_in (suc n) s = words_in n s ++ (num_at word_size s (word_size * n) ∷ [])
