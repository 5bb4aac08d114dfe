-- Lies, tested one after the other.
use Prim.Native.Nat.{ℕ}
use mathlib.Core.Path.{◌≡◌, refl, ap}
use mathlib.Core.Bool.{Bool, ◌&&◌}
use mathlib.Core.List.{List, [], ◌∷◌}
use lib.Dec.{leb}
use Rattle.std.specs.Prelude.{nat_le}
use Rattle.std.specs.List.{list_all}
use Rattle.ahead.specs.Lies.{unknown, all_lies}

pub all_tested : (lies : List ℕ) → list_all (λ b. nat_le b 2) lies ≡ all_lies lies
unfolding all_lies
all_tested [] = refl
all_tested (b ∷ lies) = ap (λ (x : Bool). leb b unknown && x) (all_tested lies)
