-- `x1_verdict::fields::points_fields` meets its contract. The invariant: the points before p obey, so that the facts of the points
-- from p on give the verdict that the facts of all points give.
use Prim.Native.Nat.{◌-◌}
use mathlib.Core.Path.{◌≡◌}
use mathlib.Core.List.{flat_map}
use Rattle.verdict.specs.Facts.{first_fault}
use Rattle.verdict.specs.Walk.{starts_from}
use Rattle.x1_layout.specs.Layout.{end_of}
use Rattle.x1_fields.specs.Fields.{point_fields}
use Rattle.x1_verdict.specs.Fields.{all_points}
use Rattle.x1_verdict.proofs.fields.points_fields.Given as goal

abbrev pub invariant-loop-p : goal.invariant-loop-p
invariant-loop-p l = first_fault (flat_map (point_fields l.f) (starts_from (λ _. l.size) (end_of l.f) l.p)) ≡ first_fault (flat_map (point_fields l.f) (all_points l.f l.size))

abbrev pub decreases-loop-p : goal.decreases-loop-p
decreases-loop-p l = l.end - l.p
