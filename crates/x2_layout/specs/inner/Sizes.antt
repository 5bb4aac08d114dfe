-- The balises of a group: the size of one, tested, and how far a loop over them is.
use Rattle.std.specs.Prelude.{ℕ, ◌+◌, ◌≤◌, ◌≡◌, Bool, ◌&&◌, List, leb}
use Rattle.verdict.specs.Facts.{test, first_fault}
use Rattle.x2_records.specs.Places.{balise_size}
use Rattle.x2_layout.specs.Groups.{right_size, walk_layout}

-- a balise at a place, whose size byte is n, fits in a group that ends at `until`
abbrev pub balise_fits : ℕ → ℕ → ℕ → Bool
balise_fits at n until = leb (at + balise_size) until && (test (right_size n) && leb (at + n) until)

-- The balises from `from` to `at` obey: the facts of the balises from `at` on have the first fault that the facts of those from `from` on have.
pub record Passed (f : List ℕ) (until from at : ℕ) : Type 0 where
  pub onward : from ≤ at
  pub so : (next : ℕ) → first_fault (walk_layout f at until next) ≡ first_fault (walk_layout f from until next)
