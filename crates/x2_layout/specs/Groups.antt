-- Groups of records that follow each other without gaps (01: 'A group runs to the next nonzero group offset, else to End'). A group's
-- offset stands in a field of the header; 0 is an empty group. A file's groups are a list in field order, `due` is where the first
-- nonzero one must start, and `end` is End. X.2's groups are one instance (Layout), and X.3's will be another.
use Rattle.std.specs.Prelude.{ℕ, suc, zero, ◌+◌, ◌-◌, ◌*◌, max, cond, eqb}
use mathlib.Core.List.{List, [], ◌∷◌, ◌++◌, flat_map}
use Rattle.octets.specs.Octets.{num_at}
use Rattle.octets.specs.declared.Width.TheVariants.{Two}
use Rattle.verdict.specs.Facts.{Claim, same, either, Fact, fact}
use Rattle.verdict.specs.Walk.{starts_from}
use Rattle.verdict.specs.declared.Reason.TheVariants as reason
use Rattle.verdict.specs.declared.Rule.TheVariants as rule
use Rattle.rules.specs.Rules.{lies_between, is_number, fits, whole, ends_at}
use Rattle.x2_records.specs.Places.{turnout_size, balise_size, balise_size_byte, signal_size, joint_size, siding_size}
use Rattle.x2_layout.specs.declared.Made.{Made}
use Rattle.x2_layout.specs.declared.Made.TheVariants.{Fixed, Balises}
use Rattle.x2_layout.specs.declared.Grouping.{Grouping}
use Rattle.x2_layout.specs.declared.Grouping.TheVariants.{Yard, Elements}
use Rattle.x2_layout.specs.declared.Offsets.{Offsets}
use Rattle.x2_layout.specs.Places.{offset_size, size_least, size_most}

-- ---- what a group is

abbrev pub element_size : ℕ
element_size = 14

-- what the group with the index i is made of: X.2 has turnouts, balises, signals, joints and sidings, X.3 elements of one size
-- 01: X2.header.1
unfoldable pub made_of : Grouping → ℕ → Made
made_of Yard i =
    cond (eqb i 0) (Fixed turnout_size)
    (cond (eqb i 1) Balises
    (cond (eqb i 2) (Fixed signal_size)
    (cond (eqb i 3) (Fixed joint_size) (Fixed siding_size))))
made_of Elements i = Fixed element_size

-- where its offset stands, and what it is made of
pub record Group : Type 0 where
  pub field : ℕ
  pub made : Made

-- the group with the index i, of those whose offsets stand one after the other
abbrev pub group_in : Offsets → ℕ → Group
group_in o i = record { field = o.base + offset_size * i; made = made_of o.file i }

-- n groups from the index i on
unfoldable pub groups_from : Offsets → ℕ → ℕ → List Group
groups_from o zero i = []
groups_from o (suc n) i = group_in o i ∷ groups_from o n (i + 1)

-- all of them
abbrev pub groups_of : Offsets → List Group
groups_of o = groups_from o o.count 0

-- ---- where it stands

abbrev pub group_start : List ℕ → Group → ℕ
group_start f g = num_at 2 f g.field

-- the next nonzero offset, else End
-- 01: X2.layout.4
unfoldable pub next_start : List ℕ → ℕ → List Group → ℕ
next_start f end [] = end
next_start f end (g ∷ gs) = cond (eqb (group_start f g) 0) (next_start f end gs) (group_start f g)

-- where that is told: the field of the next nonzero offset, else End itself
unfoldable pub next_field : List ℕ → ℕ → List Group → ℕ
next_field f end [] = end
next_field f end (g ∷ gs) = cond (eqb (group_start f g) 0) (next_field f end gs) g.field

-- where a group ends, which has an offset and is due at a place: it runs to the next nonzero offset, else to End; an empty one ends where
-- it is due
unfoldable pub group_end : ℕ → ℕ → ℕ → ℕ
group_end off due next = cond (eqb off 0) due next

-- where each group ends; the next one is due there
unfoldable pub group_ends : List ℕ → ℕ → ℕ → List Group → List ℕ
group_ends f end due [] = []
group_ends f end due (g ∷ gs) =
    group_end (group_start f g) due (next_start f end gs) ∷ group_ends f end (group_end (group_start f g) due (next_start f end gs)) gs

-- where the group with the index i ends
abbrev pub end_from : List ℕ → Offsets → ℕ → ℕ → ℕ
end_from f o i due = group_end (group_start f (group_in o i)) due (next_start f o.end (groups_from o (o.count - (i + 1)) (i + 1)))

-- ---- a nonzero group, whose offset is at `field`

-- It starts where it is due. (This asks something of the first nonzero group alone: a later one is due where the group before it ends,
-- and that is defined as its offset.) Its end `until`, which is told at `next`, is above its start, and not over End.
abbrev pub group_layout : List ℕ → ℕ → ℕ → ℕ → ℕ → ℕ → List Fact
group_layout f field due until next end =
    is_number reason.Layout f 0 field Two due
    ∷ fits 0 field offset_size (num_at 2 f field + 1) field until next
    ∷ fits 0 field offset_size until next end end
    ∷ []

-- ---- the balises of a group, one after the other

-- how many bytes the balise at a place has: its size byte, and never under 16, so that a walk goes on
-- 01: X2.layout.2
unfoldable pub balise_bytes : List ℕ → ℕ → ℕ
balise_bytes f at = max balise_size (num_at 1 f (at + balise_size_byte))

-- the size byte is 16, or 18 to 120
abbrev pub right_size : ℕ → Claim
right_size n = either (same n balise_size) (lies_between size_least size_most n)

abbrev pub size_byte : List ℕ → ℕ → Fact
size_byte f at =
    fact (right_size (num_at 1 f (at + balise_size_byte)))
    (record { reason = reason.Layout; start = at; place = at; width = 0; rule = rule.SizeByte (at + balise_size_byte) size_least size_most })

-- 16 bytes are left of the group, the size byte is right, and the balise is not too large for the rest. A fault is at the balise's start.
abbrev pub balise_layout : List ℕ → ℕ → ℕ → ℕ → List Fact
balise_layout f until next at =
    fits at at 0 (at + balise_size) at until next
    ∷ size_byte f at
    ∷ fits at at 0 (at + num_at 1 f (at + balise_size_byte)) (at + balise_size_byte) until next
    ∷ []

unfoldable pub walk_layout : List ℕ → ℕ → ℕ → ℕ → List Fact
walk_layout f from until next = flat_map (balise_layout f until next) (starts_from (balise_bytes f) until from)

-- ---- the facts, in field order

unfoldable pub made_facts : List ℕ → ℕ → ℕ → ℕ → Made → List Fact
made_facts f field until next (Fixed size) = whole 0 field offset_size (until - num_at 2 f field) size next ∷ []
made_facts f field until next Balises = walk_layout f (num_at 2 f field) until next

-- a nonzero group starts where due, its end `until`, told at `next`, is above its start and not over End, and it is whole records
unfoldable pub one_group : List ℕ → ℕ → ℕ → ℕ → ℕ → Group → List Fact
one_group f end due until next g =
    cond (eqb (group_start f g) 0) [] (group_layout f g.field due until next end ++ made_facts f g.field until next g.made)

-- Each group in turn, from where it is due to its end. At last, what came ends at End; this asks something only where no group is there,
-- since the end of a group is defined as the next offset or End. `last` is where the last record before the groups starts.
unfoldable pub group_facts : List ℕ → ℕ → ℕ → ℕ → List Group → List Fact
group_facts f last end due [] = ends_at last due end ∷ []
group_facts f last end due (g ∷ gs) =
    one_group f end due (group_end (group_start f g) due (next_start f end gs)) (next_field f end gs) g
    ++ group_facts f last end (group_end (group_start f g) due (next_start f end gs)) gs
