-- A path in which the objects were put that were listed, and what was answered of them.
use Rattle.std.specs.Prelude.{ℕ, ◌≤◌, ◌≡◌, List, length, take}
use Rattle.ahead.specs.declared.Sight.{Sight}
use Rattle.ahead.specs.Ahead.{objects_most}
use Rattle.ahead.specs.Seen.{Seen}

pub record Followed (s : Seen) (path : List ℕ) (r : Sight) : Type 0 where
  pub room : length path ≡ objects_most
  pub few : r.objects ≤ objects_most
  pub listed : take r.objects path ≡ s.objects
  pub ended : r.stop ≡ s.stop
