-- The rule of names on the readings of ticket 10, one by one: the 8 bytes of a field, and how many bytes its name has, or that they are no
-- name. `proofs/Cases` computes every case.
use Rattle.std.specs.Prelude.{ℕ, ◌≡◌, false, List, [], ◌∷◌}
use Rattle.verdict.specs.Facts.{test}
use Rattle.std.specs.Prelude.{Some, None}
use Rattle.names.specs.Names.{naming_of, object_name, not_empty}

pub data Case : Type 0 where
  -- a name of so many bytes
  right : List ℕ → ℕ → Case
  -- no name
  wrong : List ℕ → Case
  -- a name of no bytes, which will not do where it may not be empty
  empty : List ℕ → Case

abbrev pub Says : Case → Type 0
Says (right field count) = naming_of field 0 ≡ Some count
Says (wrong field) = naming_of field 0 ≡ None
Says (empty field) = (naming_of field 0 ≡ Some 0) × (test (object_name field 0 not_empty) ≡ false)

abbrev pub All : List Case → Type 0
All [] = Unit {0}
All (c ∷ cs) = Says c × All cs

-- 0x20 is a space, 0x41 and 0x42 are 'A' and 'B'
-- 02: Ticket10.3
abbrev pub table : List Case
table =
    right (0x41 ∷ 0 ∷ 0 ∷ 0 ∷ 0 ∷ 0 ∷ 0 ∷ 0 ∷ []) 1
    ∷ right (0x41 ∷ 0x20 ∷ 0x42 ∷ 0 ∷ 0 ∷ 0 ∷ 0 ∷ 0 ∷ []) 3
    -- several spaces in a row
    ∷ right (0x41 ∷ 0x20 ∷ 0x20 ∷ 0x20 ∷ 0x42 ∷ 0 ∷ 0 ∷ 0 ∷ []) 5
    -- a full field without a zero, and one with a space in it
    ∷ right (0x21 ∷ 0x7E ∷ 0x41 ∷ 0x41 ∷ 0x41 ∷ 0x41 ∷ 0x41 ∷ 0x42 ∷ []) 8
    ∷ right (0x41 ∷ 0x41 ∷ 0x41 ∷ 0x41 ∷ 0x41 ∷ 0x41 ∷ 0x20 ∷ 0x42 ∷ []) 8
    ∷ empty (0 ∷ 0 ∷ 0 ∷ 0 ∷ 0 ∷ 0 ∷ 0 ∷ 0 ∷ [])
    -- a space first, and alone
    ∷ wrong (0x20 ∷ 0x41 ∷ 0 ∷ 0 ∷ 0 ∷ 0 ∷ 0 ∷ 0 ∷ [])
    ∷ wrong (0x20 ∷ 0 ∷ 0 ∷ 0 ∷ 0 ∷ 0 ∷ 0 ∷ 0 ∷ [])
    -- a space last in the name, and last in a full field
    ∷ wrong (0x41 ∷ 0x20 ∷ 0 ∷ 0 ∷ 0 ∷ 0 ∷ 0 ∷ 0 ∷ [])
    ∷ wrong (0x41 ∷ 0x41 ∷ 0x41 ∷ 0x41 ∷ 0x41 ∷ 0x41 ∷ 0x41 ∷ 0x20 ∷ [])
    -- a byte after the end
    ∷ wrong (0x41 ∷ 0 ∷ 0x42 ∷ 0 ∷ 0 ∷ 0 ∷ 0 ∷ 0 ∷ [])
    ∷ wrong (0 ∷ 0x41 ∷ 0 ∷ 0 ∷ 0 ∷ 0 ∷ 0 ∷ 0 ∷ [])
    -- bytes beside the range
    ∷ wrong (0x41 ∷ 0x1F ∷ 0x42 ∷ 0 ∷ 0 ∷ 0 ∷ 0 ∷ 0 ∷ [])
    ∷ wrong (0x41 ∷ 0x7F ∷ 0x42 ∷ 0 ∷ 0 ∷ 0 ∷ 0 ∷ 0 ∷ [])
    ∷ []
