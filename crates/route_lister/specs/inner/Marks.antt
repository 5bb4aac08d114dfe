-- The marks that save the search of a path: the places of a file fall into cells, and the mark of a cell says which object of the path is the
-- first that lies in it.
use Rattle.std.specs.Prelude.{ℕ, ◌%◌, ◌≤◌, ◌<◌, ◌≡◌, Bool, cond, ◌&&◌, List, length, get_or, eqb, ltb}

-- how many cells there are
abbrev pub cells : ℕ
cells = 2048

-- the cell that a place lies in
unfoldable pub cell_of : ℕ → ℕ
cell_of x = x % cells

-- the mark of the cell of x
abbrev pub mark_of : List ℕ → ℕ → ℕ
mark_of marks x = get_or marks (cell_of x) 0

-- it says an object of the first n of a path, which lies in that cell
unfoldable pub told : List ℕ → List ℕ → ℕ → ℕ → Bool
told marks path n x = ltb (mark_of marks x) n && eqb (cell_of (get_or path (mark_of marks x) 0)) (cell_of x)

-- the mark of the cell of x once x stands after the first n of a path
unfoldable pub mark_for : List ℕ → List ℕ → ℕ → ℕ → ℕ
mark_for marks path n x = cond (told marks path n x) (mark_of marks x) n

-- the mark of the cell of each of the first n of a path says one of them that lies in the same cell and does not come after it
pub record Marked (marks path : List ℕ) (n : ℕ) : Type 0 where
  pub size : length marks ≡ cells
  pub not_after : (j : ℕ) → j < n → mark_of marks (get_or path j 0) ≤ j
  pub same_cell : (j : ℕ) → j < n → cell_of (get_or path (mark_of marks (get_or path j 0)) 0) ≡ cell_of (get_or path j 0)
