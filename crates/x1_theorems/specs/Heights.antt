-- What a point that is handed out has for a height (02, ticket 11), of the bytes alone: the point stands at `at`.
use Rattle.std.specs.Prelude.{ℕ, ◌+◌, ◌≡◌, List}
use Rattle.octets.specs.Octets.{signed_at}
use Rattle.x1_records.specs.Places.{point_size}
use Rattle.std.specs.Prelude.{ℤ, Option, Some, None}
use Rattle.x1_obeys.specs.Obeys.{Within, structure_of}

-- none in a file of version 1; in one of version 2 the two signed bytes at the point's end, where a point of version 1 would end
pub record HeightRead (f : List ℕ) (at : ℕ) (h : Option ℤ) : Type 0 where
  -- 02: Ticket11.5
  pub none : structure_of f ≡ 1 → h ≡ None
  -- 02: Ticket11.2
  pub some : structure_of f ≡ 2 → h ≡ Some (signed_at 2 f (at + point_size 1))

-- and it lies in the range of two signed bytes
abbrev pub HeightRange : Option ℤ → Type 0
HeightRange (Some z) = Within 32768 z
HeightRange None = Unit {0}
