-- `x1_lookup::presence::Presence::of` meets its contract. The invariant: the words so far, with the numbers of the entries from e on, are
-- the words of the file.
use mathlib.Core.Path.{◌≡◌}
use Rattle.verdict.specs.Walk.{starts_from}
use Rattle.x1_records.specs.Places.{entry_size}
use Rattle.x1_layout.specs.Layout.{points_at}
use Rattle.x1_lookup.specs.Presence.{with_all, presence_of}
use Rattle.x1_lookup.proofs.presence.Presence.of.Given as goal

abbrev pub invariant-loop-e : goal.invariant-loop-e
invariant-loop-e l = with_all l.f l.words (starts_from (λ _. entry_size) (points_at l.f) l.e) ≡ presence_of l.f
