-- The places that a link may name, as marks: the places of a file in cells of eight, with a number for each cell. Every record has more
-- than eight bytes, so at most one starts in a cell; the number says at which place of the cell, if that record may be linked to.
use Rattle.std.specs.Prelude.{ℕ, ◌+◌, ◌/◌, ◌%◌, ◌≤◌, ◌≡◌, Bool, true, false, ◌||◌, List, eqb, length, get_or}
use Rattle.verdict.specs.Facts.{test, any_of}
use Rattle.verdict.specs.Walk.{starts_from}
use Rattle.x2_layout.specs.declared.Layout.{Layout}
use Rattle.x2_layout.specs.inner.Bounds.{place_most}
use Rattle.x2_layout.specs.Records.{size_at}
use Rattle.x2_links.specs.Links.{named, is_target}

-- how many places a cell has, and how many cells hold all places of a file
abbrev pub cell : ℕ
cell = 8

abbrev pub cells : ℕ
cells = 8192

-- the mark of a place: which one of its cell it is, counted from 1
abbrev pub mark_of : ℕ → ℕ
mark_of x = x % cell + 1

-- the mark of a place where a link may name it, else 0
abbrev pub mark_if : Bool → ℕ → ℕ
mark_if true x = mark_of x
mark_if false x = 0

-- a place is marked: its cell holds its mark
abbrev pub mark_at : List ℕ → ℕ → Bool
mark_at marks x = eqb (get_or marks (x / cell) 0) (mark_of x)

-- no place is marked
abbrev pub Blank : List ℕ → Type 0
Blank marks = (i : ℕ) → get_or marks i 0 ≡ 0

-- the marked places are those that a link may name
abbrev pub Targets : List ℕ → Layout → List ℕ → Type 0
Targets f l marks = (x : ℕ) → x ≤ place_most → mark_at marks x ≡ test (is_target f l x)

-- The marks while they are being filled: a place is marked, or a record from `at` on is one that it may name, exactly where a link may
-- name it; and no cell from that of `at` on is filled yet.
pub record Marking (f : List ℕ) (l : Layout) (marks : List ℕ) (at : ℕ) : Type 0 where
  pub room : length marks ≡ cells
  pub blank : (i : ℕ) → at / cell ≤ i → get_or marks i 0 ≡ 0
  pub found : (x : ℕ) → (mark_at marks x || any_of (λ s. test (named f l x s)) (starts_from (size_at f l) l.end at)) ≡ test (is_target f l x)
