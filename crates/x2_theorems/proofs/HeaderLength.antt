-- THEOREM: the header of an X.2 file is as long as 01 says, with the number that it prints.
use Prim.Native.Nat.{ℕ, ◌+◌, ◌*◌}
use native.Mathlib.Omega.{arith}
use mathlib.Core.Path.{◌≡◌}
use Rattle.x2_layout.specs.Places.{header_length}

pub header_length_lem : (n k : ℕ) → header_length n k ≡ 35 + 3 * n + 3 * k
header_length_lem n k = omega arith
