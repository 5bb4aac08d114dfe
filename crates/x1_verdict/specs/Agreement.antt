-- X.1's agreement (01, 'Agreement' and 'Agreement in X.1'): by track, its number, then its points. A point's fault is at the point's
-- start, whichever of its fields is at fault. Facts that share a place stand in the order of the paper's sentences.
use Rattle.std.specs.Prelude.{ℕ, ◌+◌, ◌-◌, ◌^◌, ◌<◌, ◌≡◌, Bool, true, cond, ltb, eqb, ℤ, nat_abs, ◌+ℤ◌, ◌-ℤ◌}
use mathlib.Core.List.{List, [], ◌∷◌, ◌++◌, flat_map}
use Rattle.std.specs.Int.Signed.{mag}
use Rattle.octets.specs.Octets.{bytes_of, IsSigned}
use Rattle.octets.specs.declared.Width.TheVariants.{One, Three, Four}
use Rattle.verdict.specs.Facts.{Fact, fact, same, at_most, all_tests}
use Rattle.verdict.specs.Walk.{starts_from}
use Rattle.verdict.specs.declared.Mark.{Mark}
use Rattle.verdict.specs.declared.Rule.{Rule}
use Rattle.verdict.specs.declared.Reason.TheVariants as reason
use Rattle.verdict.specs.declared.Rule.TheVariants as rule
use Rattle.rules.specs.Rules.{zero_at, same_as, above}
use Rattle.tables.specs.Table.{any, Row, signed_row, field_place, signed_of}
use Rattle.tables.specs.declared.Field.{Field}
use Rattle.x1_records.specs.declared.Axis.{Axis}
use Rattle.x1_records.specs.Places.{entry_size, latitude_most, longitude_most}
use Rattle.x1_records.specs.Rows as rows
use Rattle.x1_verdict.specs.declared.agreement.Frame.{Frame}
use Rattle.x1_layout.specs.Layout.{is_first, first_of, last_of, entries}

-- ---- start plus increment

-- a start, of the entry at e, plus an increment, of the point at p
abbrev pub sum_of : List ℕ → ℕ → Row → ℕ → Row → ℤ
sum_of f e start p increment = signed_of f e start +ℤ signed_of f p increment

-- a field of the code as a row: its place and its width
abbrev pub field_row : Field → Row
field_row k = signed_row "" k.0 (bytes_of k.1) any

-- the sum of one of the two coordinates, by the code's fields
abbrev pub axis_sum : List ℕ → Axis → ℕ → ℕ → ℤ
axis_sum f axis e p = sum_of f e (field_row axis.start) p (field_row axis.increment)

-- r is that sum, and small
pub record SumOf (f : List ℕ) (axis : Axis) (e p : ℕ) (r : ℤ) : Type 0 where
  pub is : r ≡ axis_sum f axis e p
  pub small : mag r < 2 ^ 33

-- the mark of a rule of the point at p
abbrev pub point_mark : ℕ → Rule → Mark
point_mark p r = record { reason = reason.Agreement; start = p; place = p; width = 0; rule = r }

-- start plus increment is at most so far from 0
abbrev pub sum_within : List ℕ → ℕ → Row → ℕ → Row → ℕ → Fact
sum_within f e start p increment limit =
    fact (at_most (nat_abs (sum_of f e start p increment)) limit)
    (point_mark p (rule.SumWithin (field_place p increment) (field_place e start) limit))

-- start plus increment is the end: they are 0 apart
abbrev pub sum_is : List ℕ → ℕ → Row → Row → ℕ → Row → Fact
sum_is f e start end p increment =
    fact (same (nat_abs (sum_of f e start p increment -ℤ signed_of f e end)) 0)
    (point_mark p (rule.SumIs (field_place p increment) (field_place e start) (field_place e end)))

-- ---- the facts

-- track numbers strictly rise
abbrev pub number_agrees : List ℕ → ℕ → List Fact
number_agrees f e =
    cond (is_first e) [] (above f e (field_place e rows.number) One (field_place e rows.number) (field_place (e - entry_size) rows.number) ∷ [])

-- the first point has position and both increments 0, and its near flag equals the second's
abbrev pub opens : List ℕ → ℕ → ℕ → List Fact
opens f size p =
    zero_at f p p Four (field_place p rows.position)
    ∷ zero_at f p p Three (field_place p rows.latitude_increment)
    ∷ zero_at f p p Three (field_place p rows.longitude_increment)
    ∷ same_as f p p One (field_place p rows.near) (field_place (p + size) rows.near)
    ∷ []

-- positions strictly rise
abbrev pub rises : List ℕ → ℕ → ℕ → List Fact
rises f size p = above f p p Four (field_place p rows.position) (field_place (p - size) rows.position) ∷ []

-- start plus increment stays in the coordinate's range
abbrev pub stays : List ℕ → ℕ → ℕ → List Fact
stays f e p =
    sum_within f e rows.start_latitude p rows.latitude_increment latitude_most
    ∷ sum_within f e rows.start_longitude p rows.longitude_increment longitude_most
    ∷ []

-- the last point equals the track's end position, latitude and longitude
abbrev pub closes : List ℕ → ℕ → ℕ → List Fact
closes f e p =
    same_as f p p Four (field_place p rows.position) (field_place e rows.end_position)
    ∷ sum_is f e rows.start_latitude rows.end_latitude p rows.latitude_increment
    ∷ sum_is f e rows.start_longitude rows.end_longitude p rows.longitude_increment
    ∷ []

-- what the point at p is asked of the entry at e: as the first point or a later one, as any point, and as the last one
abbrev pub point_agrees : List ℕ → ℕ → ℕ → ℕ → List Fact
point_agrees f size e p =
    cond (ltb p (first_of f e + size)) (opens f size p) (rises f size p) ++ (stays f e p ++ cond (eqb p (last_of f e)) (closes f e p) [])

-- the starts of the points of the entry at e
unfoldable pub points_of : List ℕ → ℕ → ℕ → List ℕ
points_of f size e = starts_from (λ _. size) (last_of f e + size) (first_of f e)

unfoldable pub track_agrees : List ℕ → ℕ → ℕ → List Fact
track_agrees f size e = number_agrees f e ++ flat_map (point_agrees f size e) (points_of f size e)

unfoldable pub agreement_facts : List ℕ → ℕ → List Fact
agreement_facts f size = flat_map (track_agrees f size) (entries f)

-- ---- what the code reads of an entry once for all its points

-- a start is roomy: every point stays in the coordinates' ranges
abbrev pub Roomy : List ℕ → ℕ → Bool → Type 0
Roomy f e r = r ≡ true → (p : ℕ) → all_tests (stays f e p) ≡ true

-- t is what the entry at e has
pub record FrameOf (f : List ℕ) (e : ℕ) (t : Frame) : Type 0 where
  pub first : t.first ≡ first_of f e
  pub last : t.last ≡ last_of f e
  pub latitude : IsSigned 4 f (field_place e rows.start_latitude) t.latitude
  pub longitude : IsSigned 4 f (field_place e rows.start_longitude) t.longitude
  pub roomy : Roomy f e t.roomy
