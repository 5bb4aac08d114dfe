-- `x1_lookup::find_track` meets its contract. The invariant: the search among the entries from e on answers what the search among all does.
use mathlib.Core.Path.{◌≡◌}
use Rattle.verdict.specs.Walk.{starts_from}
use Rattle.x1_records.specs.Places.{entry_size}
use Rattle.x1_layout.specs.Layout.{points_at}
use Rattle.x1_lookup.specs.Lookup.{has_number, first_where, find_track}
use Rattle.x1_lookup.proofs.find_track.Given as goal

abbrev pub invariant-loop-e : goal.invariant-loop-e
invariant-loop-e l = first_where (has_number l.f l.number) (starts_from (λ _. entry_size) (points_at l.f) l.e) ≡ find_track l.f l.number
