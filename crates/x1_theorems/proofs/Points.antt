-- The points of a track are points of the file, and so each of them obeys its fields.
use Prim.Native.Nat.{ℕ, zero, suc, ◌+◌, ◌*◌, ◌≤◌, ◌<◌}
use mathlib.Core.Path.{◌≡◌, subst}
use mathlib.Core.List.{List}
use native.Mathlib.Omega.{arith}
use Rattle.x1_records.proofs.Whole.{size_positive}
use Rattle.x1_layout.specs.Layout.{structure_of, count_of, points_at, first_of, last_of}
use Rattle.x1_obeys.specs.Obeys.{size_of, entry_place, point_place, PointObeys, Obeys}

module _ (f : List ℕ) (o : Obeys f) where
  -- the first point of track i stands a number of points after where the points start
  first_whole : (i : ℕ) → i < count_of f → (m : ℕ) × (first_of f (entry_place i) ≡ points_at f + size_of f * m)
  first_whole zero h = (0, omega (arith, o.layout.first_due))
  first_whole (suc i) h =
      let before = first_whole i (omega arith) in
      let points = o.layout.two_points i (omega arith) in
      let due = o.layout.next_due i h in
      let p = before.1 in
      let q = points.1 in
      (before.0 + suc points.0 + 1, omega arith)

  pub point_obeys : (i j : ℕ) → i < count_of f → point_place f (size_of f) (entry_place i) j ≤ last_of f (entry_place i) → PointObeys f (point_place f (size_of f) (entry_place i) j)
  point_obeys i j h l =
      let first = first_whole i h in
      let p = first.1 in
      let fit = o.layout.points_fit i h in
      let positive = size_positive (structure_of f) in
      let e : points_at f + size_of f * (first.0 + j) ≡ point_place f (size_of f) (entry_place i) j = omega arith in
      subst (PointObeys f) e (o.fields.each_point (first.0 + j) (omega arith))
