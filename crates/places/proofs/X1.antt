-- THEOREM: the place of every X.1 verdict is below the bound, whatever the file is. One of more than 65,535 bytes is refused for its length, at
-- place 0. In another every place is in an entry or a point, or is where the points stop; the entries end before the points, and those at End or
-- before, by the facts of the layout that come first.
use Prim.Native.Nat.{ℕ, ◌+◌, ◌-◌, ◌≤◌, ◌<◌}
use mathlib.Core.Path.{◌≡◌, sym, subst}
use mathlib.Core.Bool.{cond}
use mathlib.Core.List.{List, [], ◌∷◌, ◌++◌, flat_map, Memᴰ}
use lib.Dec.{ltb, eqb}
use lib.ListN.{length}
use native.Mathlib.Omega.{arith}
use Rattle.verdict.specs.Facts.{AllHold}
use Rattle.verdict.specs.Reasons.{place_in}
use Rattle.envelope.specs.Seal.{most_length, seal_facts}
use Rattle.rules.specs.Rules.{length_between}
use Rattle.x1_records.specs.Places.{entries_at, entry_size, least_length_in}
use Rattle.x1_records.proofs.Whole.{size_positive}
use Rattle.x1_layout.specs.Layout.{structure_of, size_of, end_of, count_of, points_at, entries, first_of, last_of, is_first, stop_before, entry_layout, count_layout, stop_layout, layout_facts}
use Rattle.x1_fields.specs.Fields.{header_fields, entry_fields, point_fields}
use Rattle.x1_verdict.specs.Fields.{all_points, field_facts}
use Rattle.x1_verdict.specs.Agreement.{number_agrees, opens, rises, stays, closes, point_agrees, points_of, track_agrees, agreement_facts}
use Rattle.x1_verdict.specs.Facts.{file_type, sized_facts, facts_by, verdict_by, verdict_of}
use Rattle.x1_obeys.specs.Obeys.{entry_place, LayoutObeys}
use Rattle.x1_obeys.proofs.Obeys.{start_entry, entries_iff, layout_iff}
use Rattle.x2_layout.proofs.Walks.{starts_between}
use Rattle.places.specs.Places.{place_over, PlacesBelow}
use Rattle.places.proofs.Lists.{below_append, below_both, below_each, below_if, fault_below}

module _ (f : List ℕ) (size : ℕ) (most : length f ≤ most_length) where
  entry_before : (e : ℕ) → Memᴰ e (entries f) → e < points_at f
  unfolding entries
  entry_before e m = (starts_between (λ _. entry_size) (points_at f) e entries_at m).below

  -- ---- layout

  -- the points of the last track do not stop after End
  stop_inside : AllHold (count_layout f) → AllHold (flat_map (entry_layout f size) (entries f)) → stop_before f size (points_at f) ≤ end_of f
  unfolding AllHold
  stop_inside count each =
      let some = count.0.0 in
      let last = (entries_iff f (entry_layout f size)).0 each (count_of f - 1) (omega arith) in
      let same : entry_place (count_of f - 1) ≡ points_at f - entry_size = omega arith in
      subst (λ (e : ℕ). last_of f e + size ≤ end_of f) same last.1.1.1.0

  layout_below : PlacesBelow place_over (layout_facts f size)
  unfolding layout_facts AllHold
  layout_below =
      let tracks = flat_map (entry_layout f size) (entries f) in
      below_append place_over (count_layout f) (tracks ++ stop_layout f size) (omega arith) (λ count.
      let fit : points_at f ≤ end_of f = count.1.0 in
      let each = below_each place_over (entry_layout f size) (entries f) (λ e m. let before = entry_before e m in omega arith) in
      below_append place_over tracks (stop_layout f size) each (λ held. let inside = stop_inside count held in omega arith))

  module _ (o : LayoutObeys f size) where
    entry_inside : (e : ℕ) → Memᴰ e (entries f) → e < most_length
    entry_inside e m = omega (arith, entry_before e m, o.entries_fit)

    -- ---- fields

    fields_below : PlacesBelow place_over (field_facts f size)
    unfolding field_facts all_points
    fields_below =
        let tracks = flat_map (entry_fields f) (entries f) in
        let points = flat_map (point_fields f) (all_points f size) in
        let each_track = below_each place_over (entry_fields f) (entries f) (λ e m. let inside = entry_inside e m in omega arith) in
        let each_point = below_each place_over (point_fields f) (all_points f size) (λ p m. let inside = (starts_between (λ _. size) (end_of f) p (points_at f) m).below in omega arith) in
        below_both place_over (header_fields f) (tracks ++ points) (omega arith) (below_both place_over tracks points each_track each_point)

    -- ---- agreement

    -- a point of a track stands before End
    point_inside : (e : ℕ) → Memᴰ e (entries f) → (p : ℕ) → Memᴰ p (points_of f size e) → p < most_length
    unfolding points_of
    point_inside e m p q =
        let w = start_entry f e m in
        let fit : last_of f e + size ≤ end_of f = subst (λ (x : ℕ). last_of f x + size ≤ end_of f) (sym w.2) (o.points_fit w.0 w.1) in
        let before = (starts_between (λ _. size) (last_of f e + size) p (first_of f e) q).below in
        omega arith

    point_below : (e p : ℕ) → p < most_length → PlacesBelow place_over (point_agrees f size e p)
    point_below e p h =
        let first = ltb p (first_of f e + size) in
        let last = eqb p (last_of f e) in
        let end = cond last (closes f e p) [] in
        let opened = below_if place_over first (opens f size p) (rises f size p) (omega arith) (omega arith) in
        let closed = below_if place_over last (closes f e p) [] (omega arith) tt in
        below_both place_over (cond first (opens f size p) (rises f size p)) (stays f e p ++ end) opened (below_both place_over (stays f e p) end (omega arith) closed)

    track_below : (e : ℕ) → Memᴰ e (entries f) → PlacesBelow place_over (track_agrees f size e)
    unfolding track_agrees
    track_below e m =
        let inside = entry_inside e m in
        let number : PlacesBelow place_over (number_agrees f e) = below_if place_over (is_first e) [] _ tt (omega arith) in
        let points = below_each place_over (point_agrees f size e) (points_of f size e) (λ p q. point_below e p (point_inside e m p q)) in
        below_both place_over (number_agrees f e) (flat_map (point_agrees f size e) (points_of f size e)) number points

    agreement_below : PlacesBelow place_over (agreement_facts f size)
    unfolding agreement_facts
    agreement_below = below_each place_over (track_agrees f size) (entries f) track_below

-- ---- the file

facts_below : (newest : ℕ) (f : List ℕ) → PlacesBelow place_over (facts_by newest f)
unfolding facts_by sized_facts
facts_below newest f =
    let size = size_of f in
    let laid = layout_facts f size in
    let filled = field_facts f size in
    let agreed = agreement_facts f size in
    let least = length_between f (least_length_in (structure_of f)) most_length in (
      omega arith,
      λ h.
          let after = below_append place_over laid (filled ++ agreed) (layout_below f size h.1) (λ l.
          let o = (layout_iff f size (size_positive (structure_of f))).0 l in
          below_both place_over filled agreed (fields_below f size h.1 o) (agreement_below f size h.1 o))
          in
          below_both place_over (seal_facts f file_type newest) (least ∷ (laid ++ (filled ++ agreed))) (omega arith) (omega arith, λ _. after),
    )

-- the place of a verdict, whichever structure versions the reader knows
pub x1_place_by : (newest : ℕ) (f : List ℕ) → place_in (verdict_by newest f) < place_over
x1_place_by newest f = fault_below place_over (omega arith) (facts_by newest f) (facts_below newest f)

pub x1_place : (f : List ℕ) → place_in (verdict_of f) < place_over
x1_place = x1_place_by 2
