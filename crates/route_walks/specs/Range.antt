-- The limits and budgets that may be asked with (01, 'Routes': 'Limit 2 to 512', 'Budget 1 to 65,535').
use Rattle.std.specs.Prelude.{ℕ, ◌≤◌}

-- the least and the highest limit and budget
-- 02: Ticket8.6
abbrev pub limit_least : ℕ
limit_least = 2

-- 02: Ticket8.6
abbrev pub limit_most : ℕ
limit_most = 512

abbrev pub budget_least : ℕ
budget_least = 1

abbrev pub budget_most : ℕ
budget_most = 65535

-- a limit and a budget in these ranges
pub record Bounds (limit budget : ℕ) : Type 0 where
  pub least : limit_least ≤ limit
  pub most : limit ≤ limit_most
  pub some : budget_least ≤ budget
  pub few : budget ≤ budget_most
