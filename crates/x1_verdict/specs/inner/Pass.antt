-- One pass over the tracks of a file and their points: what it has seen of a point, of a track and of all; no reader of the rule need know
-- it.
use Rattle.std.specs.Prelude.{ℕ, ◌+◌, ◌-◌, ◌^◌, ◌≤◌, ◌<◌, ◌≡◌, true, length}
use mathlib.Core.List.{List, flat_map}
use Rattle.std.specs.Prelude.{Result, Ok, Err}
use Rattle.verdict.specs.Facts.{Fact, all_tests, first_fault}
use Rattle.verdict.specs.Walk.{starts_from}
use Rattle.tables.specs.Table.{field_place, value_of}
use Rattle.x1_records.specs.Places.{entry_size, position_most}
use Rattle.x1_records.specs.Rows.{position, near}
use Rattle.x1_layout.specs.Layout.{end_of, points_at, first_of, last_of}
use Rattle.x1_fields.specs.Fields.{point_fields}
use Rattle.x1_verdict.specs.declared.agreement.Frame.{Frame}
use Rattle.x1_verdict.specs.Fields.{all_points, field_facts}
use Rattle.x1_verdict.specs.Agreement.{FrameOf, point_agrees, track_agrees, agreement_facts}
use Rattle.x1_verdict.specs.inner.FirstOff.{points_from}

-- the facts of the fields of the points from p on
abbrev pub fields_from : List ℕ → ℕ → ℕ → List Fact
fields_from f size p = flat_map (point_fields f) (starts_from (λ _. size) (end_of f) p)

-- the facts of the tracks from the entry at e on
abbrev pub tracks_from : List ℕ → ℕ → ℕ → List Fact
tracks_from f size e = flat_map (track_agrees f size) (starts_from (λ _. entry_size) (points_at f) e)

-- the point at p obeys by its fields if its position is not above the limit
abbrev pub FieldsIfSmall : List ℕ → ℕ → Type 0
FieldsIfSmall f p = value_of f p position ≤ position_most → all_tests (point_fields f p) ≡ true

-- the point at p agrees, as one of the entry at e, and obeys by its fields if its position is not above the limit
pub record PointPassed (f : List ℕ) (size e p : ℕ) : Type 0 where
  pub fields : FieldsIfSmall f p
  pub agrees : all_tests (point_agrees f size e p) ≡ true

-- the point at p agrees, as one of the entry at e, and obeys by its fields
pub record EdgePassed (f : List ℕ) (size e p : ℕ) : Type 0 where
  pub fields : all_tests (point_fields f p) ≡ true
  pub agrees : all_tests (point_agrees f size e p) ≡ true

-- so does the last one of the entry at e, and it stands at p
pub record LastPassed (f : List ℕ) (size e p : ℕ) : Type 0 where
  pub edge : EdgePassed f size e p
  pub here : p ≡ last_of f e

-- t is what the entry at e has: room for every increment, more than one point, and the last of them inside f
pub record RoomyInside (f : List ℕ) (e : ℕ) (t : Frame) : Type 0 where
  pub frame : FrameOf f e t
  pub roomy : t.roomy ≡ true
  pub more : t.first < t.last
  pub inside : field_place t.last near < length f

-- the fields of the points from one place on and before another obey
pub record FieldsPassed (f : List ℕ) (size from p : ℕ) : Type 0 where
  pub so : first_fault (fields_from f size p) ≡ first_fault (fields_from f size from)

-- the points of the entry at e after its first one and before p agree, and obey by their fields if the last of their positions, which rise,
-- is not above the limit
pub record LaterPassed (f : List ℕ) (size e p : ℕ) : Type 0 where
  pub fields : value_of f (p - size) position ≤ position_most → FieldsPassed f size (first_of f e + size) p
  pub agrees : first_fault (points_from f size e p) ≡ first_fault (points_from f size e (first_of f e + size))
  pub after : first_of f e + size ≤ p
  pub small : p < 2 ^ 17

-- the track of the entry at e agrees, and the fields of its points, which stand from `due` on and before `next`, obey
pub record TrackPassed (f : List ℕ) (size e due next : ℕ) : Type 0 where
  pub fields : FieldsPassed f size due next
  pub agrees : all_tests (track_agrees f size e) ≡ true

-- the tracks before the entry at e agree, and the fields of the points before `due` obey
pub record Passing (f : List ℕ) (size e due : ℕ) : Type 0 where
  pub fields : FieldsPassed f size (points_at f) due
  pub agrees : first_fault (tracks_from f size e) ≡ first_fault (agreement_facts f size)

-- how far the pass came: over all tracks, whose points end where the next ones were due; or to the entry of the first one that does not pass, before
-- which each agrees, and whose points are due at a place before which the fields of all points obey
abbrev pub Reached : List ℕ → ℕ → Result ℕ ℕ → Type 0
Reached f size (Ok due) = Passing f size (points_at f) due
Reached f size (Err e) = (due : ℕ) × Passing f size e due

-- so do all tracks, and the fields of all points
pub record TracksPassed (f : List ℕ) (size : ℕ) : Type 0 where
  pub fields : (Ok tt) ≡ first_fault (flat_map (point_fields f) (all_points f size))
  pub agrees : (Ok tt) ≡ first_fault (agreement_facts f size)

-- so do all fields
pub record AllPassed (f : List ℕ) (size : ℕ) : Type 0 where
  pub fields : (Ok tt) ≡ first_fault (field_facts f size)
  pub agrees : (Ok tt) ≡ first_fault (agreement_facts f size)
