-- Looking for the first place of a list that passes a test, and for the entry of a track by its number (01: a coordinate's track, and the
-- tracks that the pair looks up).
use Rattle.std.specs.Prelude.{ℕ, ◌<◌, ◌≡◌, Bool, cond, List, [], ◌∷◌, eqb}
use Rattle.tables.specs.Table.{value_of}
use Rattle.x1_records.specs.Rows as rows
use Rattle.x1_layout.specs.Layout.{count_of, entries}
use Rattle.x1_obeys.specs.Obeys.{entry_place}
use Rattle.std.specs.Prelude.{Option, Some, None}

-- the first of the places that passes the test
unfoldable pub first_where : (ℕ → Bool) → List ℕ → Option ℕ
first_where t [] = None
first_where t (x ∷ xs) = cond (t x) (Some x) (first_where t xs)

-- the number of the track whose entry is at e
abbrev pub number_at : List ℕ → ℕ → ℕ
number_at f e = value_of f e rows.number

-- it is the one that is looked for
abbrev pub has_number : List ℕ → ℕ → ℕ → Bool
has_number f number e = eqb (number_at f e) number

-- the entry of the track with a number: the first in stored order
-- 02: Ticket7.1, Ticket7.4
unfoldable pub find_track : List ℕ → ℕ → Option ℕ
find_track f number = first_where (has_number f number) (entries f)

-- a track of the file has the number
-- 01: Ask.3
-- 02: Ticket7.2
pub record TrackNumbered (f : List ℕ) (number : ℕ) : Type 0 where
  pub track : ℕ
  pub in_file : track < count_of f
  pub same : number_at f (entry_place track) ≡ number
