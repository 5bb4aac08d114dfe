-- X.1's layout (01, 'Layout' and 'Layout faults in X.1'): where the entries and the points stand. `size` is the size of a point.
use Rattle.std.specs.Prelude.{ℕ, ◌+◌, ◌-◌, ◌*◌, Bool, cond, ltb}
use mathlib.Core.List.{List, [], ◌∷◌, ◌++◌, flat_map}
use Rattle.octets.specs.declared.Width.TheVariants.{One, Two}
use Rattle.verdict.specs.Facts.{Fact}
use Rattle.verdict.specs.Walk.{starts_from}
use Rattle.verdict.specs.declared.Reason.TheVariants as reason
use Rattle.rules.specs.Rules.{is_number, between, fits, whole, ends_at}
use Rattle.tables.specs.Table.{field_place, value_of}
pub use Rattle.envelope.specs.Seal.{end_of, structure_of}
use Rattle.x1_records.specs.Places.{entries_at, entry_size, point_size}
use Rattle.x1_records.specs.Rows as rows

-- the size of a file's points: that of its structure version
-- 02: Ticket11.3, Ticket11.10
abbrev pub size_of : List ℕ → ℕ
size_of f = point_size (structure_of f)

-- the track count n
abbrev pub count_of : List ℕ → ℕ
count_of f = value_of f 0 rows.count

-- where the entries end and the points start: 8 + 30 n
abbrev pub points_at : List ℕ → ℕ
points_at f = entries_at + entry_size * count_of f

-- that is at most after 255 entries
abbrev pub points_most : ℕ
points_most = entries_at + entry_size * 255

-- the starts of the entries
unfoldable pub entries : List ℕ → List ℕ
entries f = starts_from (λ _. entry_size) (points_at f) entries_at

-- the first and the last point offset of the entry at e
abbrev pub first_of : List ℕ → ℕ → ℕ
first_of f e = value_of f e rows.first

abbrev pub last_of : List ℕ → ℕ → ℕ
last_of f e = value_of f e rows.last

-- the entry at e is the first one
abbrev pub is_first : ℕ → Bool
is_first e = ltb e (entries_at + entry_size)

-- where the points end of the track whose entry ends at e
abbrev pub stop_before : List ℕ → ℕ → ℕ → ℕ
stop_before f size e = last_of f (e - entry_size) + size

-- where the points of the entry at e are due: after the entries, and then where the last track's end
unfoldable pub due_at : List ℕ → ℕ → ℕ → ℕ
due_at f size e = cond (is_first e) (points_at f) (stop_before f size e)

-- the last offset is the first plus a positive multiple of the size
abbrev pub spread : List ℕ → ℕ → ℕ → List Fact
spread f size e =
    fits e (field_place e rows.last) (rows.last).width (first_of f e + size) (field_place e rows.first) (last_of f e) (field_place e rows.last)
    ∷ whole e (field_place e rows.last) (rows.last).width (last_of f e - first_of f e) size (field_place e rows.first)
    ∷ []

-- by track: the first offset is where due; the last offset is the first plus a positive multiple of the size, and its point fits
abbrev pub entry_layout : List ℕ → ℕ → ℕ → List Fact
entry_layout f size e =
    is_number reason.Layout f e (field_place e rows.first) Two (due_at f size e)
    ∷ (spread f size e
    ++ (fits e (field_place e rows.last) (rows.last).width (last_of f e + size) (field_place e rows.last) (end_of f) (end_of f) ∷ []))

-- n is not 0, and the entries fit
abbrev pub count_layout : List ℕ → List Fact
count_layout f =
    between reason.Layout f 0 (field_place 0 rows.count) One 1 255
    ∷ fits 0 (field_place 0 rows.count) (rows.count).width (points_at f) (field_place 0 rows.count) (end_of f) (end_of f)
    ∷ []

-- at last, the points do not stop short of End
abbrev pub stop_layout : List ℕ → ℕ → List Fact
stop_layout f size = ends_at (last_of f (points_at f - entry_size)) (stop_before f size (points_at f)) (end_of f) ∷ []

-- 02: Ticket11.3
unfoldable pub layout_facts : List ℕ → ℕ → List Fact
layout_facts f size = count_layout f ++ (flat_map (entry_layout f size) (entries f) ++ stop_layout f size)
