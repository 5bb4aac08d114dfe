-- The fields of a record as one table: a row for each field in the page's order, with its name, its offset in the record, how many bytes it
-- has, whether it is signed, and what may stand in it. What the rows mean as values, as facts and as statements follows from the table by
-- one definition each.
use Rattle.std.specs.Prelude.{ℕ, ◌+◌, ◌/◌, ◌%◌, Bool, ◌&&◌, List, [], ◌∷◌, ◌++◌, eqb, ℤ}
use Prim.Native.String.{String}
use Rattle.octets.specs.Octets.{num_at, signed_at}
use Rattle.names.specs.declared.Name.{Name}
use Rattle.names.specs.Names.{name_at}

-- ---- what may stand in a field

-- Some bits of a number: the number divided by the first, modulo the second, lies between the other two.
pub data Part : Type 0 where
  bits : ℕ → ℕ → ℕ → ℕ → Part

-- the bits as a number
abbrev pub bits_of : Part → ℕ → ℕ
bits_of (bits over modulo low high) x = x / over % modulo

-- A link is judged with the other links, an offset or a size with the layout; any value may stand where the page asks for none.
pub data Values : Type 0 where
  any : Values
  link : Values
  exactly : ℕ → Values
  between : ℕ → ℕ → Values
  -- a signed number at most so far from 0
  within : ℕ → Values
  among_four : ℕ → ℕ → ℕ → ℕ → Values
  among_five : ℕ → ℕ → ℕ → ℕ → ℕ → Values
  -- an object's name of at least so many bytes
  named : ℕ → Values
  parts : List Part → Values

-- ---- a row

pub data Sign : Type 0 where
  unsigned : Sign
  signed : Sign

pub record Row : Type 0 where
  pub name : String
  pub offset : ℕ
  pub width : ℕ
  pub sign : Sign
  pub values : Values

-- a field that is not signed, and one that is
abbrev pub row : String → ℕ → ℕ → Values → Row
row name offset width values = record { name = name; offset = offset; width = width; sign = unsigned; values = values }

abbrev pub signed_row : String → ℕ → ℕ → Values → Row
signed_row name offset width values = record { name = name; offset = offset; width = width; sign = signed; values = values }

-- ---- what its bytes mean, in the record that starts at `at`

-- where a row's field stands
abbrev pub field_place : ℕ → Row → ℕ
field_place at r = at + r.offset

-- the number that stands there
abbrev pub value_of : List ℕ → ℕ → Row → ℕ
value_of f at r = num_at r.width f (at + r.offset)

-- the same as a signed number
abbrev pub signed_of : List ℕ → ℕ → Row → ℤ
signed_of f at r = signed_at r.width f (at + r.offset)

-- the name that stands there
abbrev pub name_of : List ℕ → ℕ → Row → Name
name_of f at r = name_at f (at + r.offset)

-- ---- the places of the links, in the table's order

abbrev link_place : ℕ → ℕ → Values → List ℕ
link_place at k any = []
link_place at k link = (at + k) ∷ []
link_place at k (exactly n) = []
link_place at k (between low high) = []
link_place at k (within n) = []
link_place at k (among_four a b c d) = []
link_place at k (among_five a b c d e) = []
link_place at k (named least) = []
link_place at k (parts ps) = []

abbrev pub links_in : ℕ → List Row → List ℕ
links_in at [] = []
links_in at (r ∷ rs) = link_place at r.offset r.values ++ links_in at rs

-- ---- a table leaves no gap: each row stands where the one before it ends, the first at `from`, and the last one ends at `end`

abbrev pub tiles : ℕ → List Row → ℕ → Bool
tiles from [] end = eqb from end
tiles from (r ∷ rs) end = eqb from r.offset && tiles (from + r.width) rs end
