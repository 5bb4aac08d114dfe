-- X.2's layout faults in 01's order: counts, boundary offsets, then the groups. A header field's record is the header, which starts at 0.
use Rattle.std.specs.Prelude.{ℕ, ◌+◌, ◌-◌, ◌*◌}
use mathlib.Core.List.{List, [], ◌∷◌, ◌++◌, flat_map}
use Rattle.octets.specs.declared.Width.TheVariants.{One, Two}
use Rattle.verdict.specs.Facts.{Fact, first_fault}
use Rattle.verdict.specs.Walk.{starts_from}
use Rattle.verdict.specs.Verdicts.{Judged}
use Rattle.std.specs.Prelude.{Ok, Err}
use Rattle.verdict.specs.declared.Reason.TheVariants as reason
use Rattle.rules.specs.Rules.{is_number, between, fits}
use Rattle.x2_records.specs.Places.{boundary_size}
use Rattle.x2_layout.specs.declared.Layout.{Layout}
use Rattle.x2_layout.specs.Results.{Shape}
use Rattle.x2_layout.specs.Places.{start_count_at, entry_offset, header_entry_size, start_entries_at, end_count_at, end_entries_at, groups_at}
use Rattle.x2_layout.specs.Layout.{yard_offsets, layout_of}
unfoldable pub use Rattle.x2_layout.specs.Groups.{balise_bytes}
use Rattle.x2_layout.specs.Groups.{Group, groups_of, group_facts}

-- ---- the counts: n is not 0 and k's place is below End; k is not 0 and the boundaries fit

abbrev pub count_layout : List ℕ → Layout → List Fact
count_layout f l =
    between reason.Layout f 0 start_count_at One 1 255
    ∷ fits 0 start_count_at 1 (end_count_at l.n + 1) start_count_at l.end l.end
    ∷ between reason.Layout f 0 (end_count_at l.n) One 1 255
    ∷ fits 0 (end_count_at l.n) 1 l.turnouts (end_count_at l.n) l.end l.end
    ∷ []

-- ---- the boundary offsets: each is where due

-- 0, 1, .., n - 1
unfoldable pub indexes : ℕ → List ℕ
indexes n = starts_from (λ _. 1) n 0

-- the offset in the entry with the index i, of those from `entries` on, whose boundaries are due from `due` on
abbrev pub offset_layout : List ℕ → ℕ → ℕ → ℕ → List Fact
offset_layout f entries due i = is_number reason.Layout f 0 (entries + header_entry_size * i + entry_offset) Two (due + boundary_size * i) ∷ []

unfoldable pub offsets_layout : List ℕ → ℕ → ℕ → ℕ → List Fact
offsets_layout f entries due count = flat_map (offset_layout f entries due) (indexes count)

-- ---- the groups: the first is due where the boundaries end

abbrev pub groups_in : Layout → List Group
groups_in l = groups_of (yard_offsets (groups_at l.n l.k) l.end)

-- ---- all of them

unfoldable pub layout_facts : List ℕ → Layout → List Fact
layout_facts f l =
    count_layout f l
    ++ (offsets_layout f start_entries_at l.starts l.n
    ++ (offsets_layout f (end_entries_at l.n) l.ends l.k
    ++ group_facts f (l.turnouts - boundary_size) l.end l.turnouts (groups_in l)))

-- ---- the layout that is found, or the first fault

unfoldable pub shaped : Judged → Layout → Shape
shaped (Ok tt) l = Ok l
shaped (Err m) l = Err m

unfoldable pub shape_of : List ℕ → Shape
shape_of f = shaped (first_fault (layout_facts f (layout_of f))) (layout_of f)
