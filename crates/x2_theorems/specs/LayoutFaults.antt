-- Where a refusal of an X.2 file's layout is reported: 01's 'Layout faults' in its order, of the bytes alone. (What is right is said in
-- Obeys.)
use Rattle.std.specs.Prelude.{ℕ, ◌+◌, ◌-◌, ◌*◌, ◌%◌, ◌≤◌, ◌<◌, ◌≡◌, cond, eqb}
use mathlib.Core.List.{List, [], ◌∷◌, Memᴰ}
use Rattle.octets.specs.Octets.{num_at}
use Rattle.verdict.specs.Walk.{starts_from}
use Rattle.verdict.specs.Order.{Or}
use Rattle.rules.specs.Rules.{Between}
use Rattle.x2_records.specs.Places.{boundary_size}
use Rattle.x2_layout.specs.declared.Layout.{Layout}
use Rattle.x2_layout.specs.declared.Made.TheVariants.{Fixed, Balises}
use Rattle.x2_layout.specs.Places.{start_count_at, entry_offset, header_entry_size, start_entries_at, end_count_at, end_entries_at}
use Rattle.x2_layout.specs.Groups.{Group, group_start, next_start, balise_bytes}
use Rattle.x2_layout.specs.Facts.{groups_in}
use Rattle.x2_layout.specs.Obeys.{BaliseFits}

-- ---- the header

-- n is 0, or 24 + 3n is End or more (place 23); k is 0, or header plus 12 (n + k) exceeds End (place 24 + 3n)
pub data CountAtFault (f : List ℕ) (l : Layout) (p : ℕ) : Type 0 where
  -- 01: Fault2.layout.1
  start_count : p ≡ start_count_at → (Between 1 255 (num_at 1 f start_count_at) × (end_count_at l.n < l.end) → ⊥) → CountAtFault f l p
  -- 01: Fault2.layout.2
  end_count : p ≡ end_count_at l.n → (Between 1 255 (num_at 1 f (end_count_at l.n)) × (l.turnouts ≤ l.end) → ⊥) → CountAtFault f l p

-- a boundary offset is not where due (its field): one of `count`, in the entries from `entries` on, of boundaries that are due from `due`
-- on
-- 01: Fault2.layout.3
pub record OffsetAtFault (f : List ℕ) (entries due count p : ℕ) : Type 0 where
  pub which : ℕ
  pub counted : which < count
  pub stands : p ≡ entries + header_entry_size * which + entry_offset
  pub fails : num_at 2 f p ≡ due + boundary_size * which → ⊥

-- ---- a nonzero group, which ends at `until`

-- it starts where due, its end is above its start and not over End, and for fixed sizes it is whole records
pub record GroupFits (f : List ℕ) (end due until : ℕ) (g : Group) : Type 0 where
  -- 01: Fault2.layout.4
  pub starts : group_start f g ≡ due
  -- 01: Fault2.layout.5
  pub above : group_start f g < until
  -- 01: Fault2.layout.5
  pub inside : until ≤ end
  -- 01: Fault2.layout.6
  pub whole : (size : ℕ) → g.made ≡ Fixed size → (until - group_start f g) % size ≡ 0

-- it does not (the group's field)
-- 01: Fault2.layout.4
pub record GroupAtFault (f : List ℕ) (end due until : ℕ) (g : Group) (p : ℕ) : Type 0 where
  pub stands : p ≡ g.field
  pub fails : GroupFits f end due until g → ⊥

-- it is of balises, and one has under 16 bytes left, a size byte not 16 nor 18 to 120, or is too large for the rest (the balise's start)
-- 01: Fault2.layout.7, Fault2.layout.8, Fault2.layout.9
pub record BaliseAtFault (f : List ℕ) (until : ℕ) (g : Group) (p : ℕ) : Type 0 where
  pub made : g.made ≡ Balises
  pub starts : Memᴰ p (starts_from (balise_bytes f) until (group_start f g))
  pub fails : BaliseFits f until p → ⊥

-- ---- the groups: the next one is due at `due`

-- by nonzero group, which ends at the next nonzero offset, else at End: its own fault, and in the balise group's turn the first balise at
-- fault; at last, with nothing left, the place where what came ends
-- 01: Fault2.layout.4, Fault2.layout.7, Fault2.layout.10
unfoldable pub GroupsPlace : List ℕ → ℕ → ℕ → List Group → ℕ → Type 0
GroupsPlace f end due [] p = p ≡ due
GroupsPlace f end due (g ∷ gs) p =
    cond (eqb (group_start f g) 0) (GroupsPlace f end due gs p)
    (Or (GroupAtFault f end due (next_start f end gs) g)
    (Or (BaliseAtFault f (next_start f end gs) g) (GroupsPlace f end (next_start f end gs) gs)) p)

-- ---- all of them

-- 01: No.6
abbrev pub LayoutPlace : List ℕ → Layout → ℕ → Type 0
LayoutPlace f l =
    Or (CountAtFault f l)
    (Or (OffsetAtFault f start_entries_at l.starts l.n)
    (Or (OffsetAtFault f (end_entries_at l.n) l.ends l.k)
    (GroupsPlace f l.end l.turnouts (groups_in l))))
