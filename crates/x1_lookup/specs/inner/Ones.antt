-- Counting the ones of the words of present numbers.
use Rattle.std.specs.Prelude.{ℕ, ◌≤◌, ◌≡◌}

-- a count, and that it is at most so many
pub record Counted (n most r : ℕ) : Type 0 where
  pub is : r ≡ n
  pub small : r ≤ most
