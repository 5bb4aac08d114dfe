-- What a right layout is, in 01's words and order, with no search and no test (01, 'X.2, fixed application' and 'Layout faults').
use Rattle.std.specs.Prelude.{ℕ, ◌+◌, ◌-◌, ◌*◌, ◌%◌, ◌≤◌, ◌<◌, ◌≡◌, ◌⊎◌}
use mathlib.Core.List.{List, [], ◌∷◌, Memᴰ}
use Rattle.octets.specs.Octets.{num_at}
use Rattle.verdict.specs.Walk.{starts_from}
use Rattle.x2_records.specs.Places.{boundary_size, balise_size, balise_size_byte}
use Rattle.x2_layout.specs.declared.Layout.{Layout}
use Rattle.x2_layout.specs.declared.Made.{Made}
use Rattle.x2_layout.specs.declared.Made.TheVariants.{Fixed, Balises}
use Rattle.x2_layout.specs.Places.{start_count_at, entry_offset, header_entry_size, start_entries_at, end_count_at, end_entries_at, size_least}
use Rattle.x2_layout.specs.Places.{size_most}
use Rattle.x2_layout.specs.Groups.{Group, group_start, balise_bytes}
use Rattle.x2_layout.specs.Facts.{groups_in}

-- a balise has 16 bytes left of its group, its size byte is 16 or 18 to 120, and it is not too large for the rest
pub record BaliseFits (f : List ℕ) (until at : ℕ) : Type 0 where
  -- 01: Fault2.layout.7
  pub left : at + balise_size ≤ until
  -- 01: X2.fields.11, Fault2.layout.8
  pub size : (num_at 1 f (at + balise_size_byte) ≡ balise_size)
      ⊎ ((size_least ≤ num_at 1 f (at + balise_size_byte)) × (num_at 1 f (at + balise_size_byte) ≤ size_most))
  -- 01: Fault2.layout.9
  pub rest : at + num_at 1 f (at + balise_size_byte) ≤ until

-- ---- the same with no search and no test

-- whole records stand from a to b
-- 01: Fault2.layout.6
unfoldable pub MadeOf : List ℕ → ℕ → ℕ → Made → Type 0
MadeOf f a b (Fixed size) = (b - a) % size ≡ 0
MadeOf f a b Balises = (at : ℕ) → Memᴰ at (starts_from (balise_bytes f) b a) → BaliseFits f b at

-- from `due` to End there is nothing but the groups: none is left and `due` is End; or the next one is empty; or it stands from `due` to
-- somewhere, as whole records, and the others from there
-- 01: X2.layout.1
pub data Grouped (f : List ℕ) (end : ℕ) : ℕ → List Group → Type 0 where
  -- 01: Fault2.layout.10
  none : Grouped f end end []
  -- 01: X2.header.2
  empty : {due : ℕ} {g : Group} {gs : List Group} → group_start f g ≡ 0 → Grouped f end due gs → Grouped f end due (g ∷ gs)
  -- 01: X2.layout.4
  there :
      {due : ℕ} {g : Group} {gs : List Group} (until : ℕ)
      → (due ≡ 0 → ⊥) → group_start f g ≡ due → due < until → MadeOf f due until g.made → Grouped f end until gs
      → Grouped f end due (g ∷ gs)

pub record LayoutObeys (f : List ℕ) (l : Layout) : Type 0 where
  -- n is not 0, and 24 + 3n is below End
  -- 01: Fault2.layout.1
  pub start_count : (1 ≤ num_at 1 f start_count_at) × (num_at 1 f start_count_at ≤ 255)
  -- 01: Fault2.layout.1
  pub start_room : end_count_at l.n < l.end
  -- k is not 0, and header plus 12 (n + k) is not over End
  -- 01: Fault2.layout.2
  pub end_count : (1 ≤ num_at 1 f (end_count_at l.n)) × (num_at 1 f (end_count_at l.n) ≤ 255)
  -- 01: Fault2.layout.2
  pub boundary_room : l.turnouts ≤ l.end
  -- each boundary offset is where due: the start boundaries stand after the header, the end boundaries after those
  -- 01: X2.layout.1, Fault2.layout.3
  pub start_offsets : (i : ℕ) → i < l.n → num_at 2 f (start_entries_at + header_entry_size * i + entry_offset) ≡ l.starts + boundary_size * i
  -- 01: X2.layout.1, Fault2.layout.3
  pub end_offsets : (j : ℕ) → j < l.k → num_at 2 f (end_entries_at l.n + header_entry_size * j + entry_offset) ≡ l.ends + boundary_size * j
  -- from there to End there is nothing but the groups
  -- 01: X2.layout.1
  pub groups : Grouped f l.end l.turnouts (groups_in l)
