-- `x1_verdict::agreement::check_agreement` meets its contract. The invariant: the tracks before the entry at e obey, so that the facts of
-- the tracks from e on give the verdict that the facts of all tracks give.
use mathlib.Core.Path.{◌≡◌}
use mathlib.Core.List.{flat_map}
use Rattle.verdict.specs.Facts.{first_fault}
use Rattle.verdict.specs.Walk.{starts_from}
use Rattle.x1_records.specs.Places.{entry_size}
use Rattle.x1_layout.specs.Layout.{points_at, entries}
use Rattle.x1_verdict.specs.Agreement.{track_agrees}
use Rattle.x1_verdict.proofs.agreement.check_agreement.Given as goal

abbrev pub invariant-loop-e : goal.invariant-loop-e
invariant-loop-e l = first_fault (flat_map (track_agrees l.f l.size) (starts_from (λ _. entry_size) (points_at l.f) l.e)) ≡ first_fault (flat_map (track_agrees l.f l.size) (entries l.f))
