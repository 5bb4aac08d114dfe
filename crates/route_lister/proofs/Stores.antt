-- What a path holds, and the words of a route, stored one after the other.
use Prim.Native.Nat.{ℕ, ◌+◌, ◌<◌}
use native.Mathlib.Numerals.{add-one}
use mathlib.Core.Path.{◌≡◌}
use mathlib.Core.List.{List, [], ◌∷◌, ◌++◌}
use lib.ListN.{length, take, set}
use lib.Seq.{take-suc-set}

-- what the path holds after the store of an object
pub path_more : (path : List ℕ) (n x : ℕ) → n < length path → take (n + 1) (set path n x) ≡ take n path ++ (x ∷ [])
path_more path n x h = rw add-one (take-suc-set path n x h)
