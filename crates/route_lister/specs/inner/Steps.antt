-- What the steps of the lister ensure of plain numbers and lists.
use Rattle.std.specs.Prelude.{ℕ, ◌≤◌, ◌<◌, ◌≡◌, Bool, true, false, ◌⊎◌, List}
use Rattle.route_walks.specs.Walks.{has}

-- the walk p opens another by the link `to`
pub record Opens (p : List ℕ) (to left walks budget : ℕ) : Type 0 where
  pub named : to ≡ 0 → ⊥
  pub allowed : left ≡ 0 → ⊥
  pub within : walks ≤ budget
  pub fresh : has p to ≡ false

-- it opens none
abbrev pub Shut : List ℕ → ℕ → ℕ → ℕ → ℕ → Type 0
Shut p to left walks budget = (to ≡ 0) ⊎ ((left ≡ 0) ⊎ ((budget < walks) ⊎ (has p to ≡ true)))

-- which of the two, tested
pub record Tested (p : List ℕ) (to left walks budget : ℕ) (r : Bool) : Type 0 where
  pub open_if : r ≡ true → Opens p to left walks budget
  pub shut_if : r ≡ false → Shut p to left walks budget
