-- The tracks of X.1 (f) as the pair looks them up, once for each position: by the words of their numbers.
use Rattle.std.specs.Prelude.{ℕ, ◌+◌, ◌≡◌, List}
use Rattle.octets.specs.Octets.{num_at}
use Rattle.verdict.specs.Facts.{Fact, fact, same, at_most}
use Rattle.std.specs.Prelude.{Ok, Err}
use Rattle.verdict.specs.declared.Reason.TheVariants as reason
use Rattle.verdict.specs.declared.Rule.TheVariants as rule
use Rattle.x1_lookup.specs.Lookup.{find_track}
use Rattle.x1_lookup.specs.Presence.{entry_by}
use Rattle.std.specs.Prelude.{Option, Some, None}
use Rattle.x1_lookup.specs.declared.presence.Presence.{Presence}
use Rattle.tables.specs.declared.Field.{Field}
use Rattle.x2_records.specs.declared.Kind.{Kind}
use Rattle.x2_layout.specs.declared.Layout.{Layout}
use Rattle.x2_layout.specs.inner.Walking.{Walking}
use Rattle.x2_verdict.specs.inner.Passes.{Sort}
use Rattle.pair.specs.Pair.{lies, present, reach, spot_facts, record_pair}

-- the words find what the search does
abbrev pub Answers : List ℕ → Presence → Type 0
Answers f tracks = (n : ℕ) → entry_by tracks n ≡ find_track f n

-- the facts of a position, over what was found of its track
abbrev pub in_first_by : Option ℕ → ℕ → ℕ → Fact
in_first_by found at t = fact (same (present found) 1) (record { reason = reason.Track; start = at; place = t; width = 1; rule = rule.InFirst })

abbrev pub within_track_by : List ℕ → List ℕ → Option ℕ → ℕ → ℕ → ℕ → Fact
within_track_by f g found at t p =
    fact (at_most (num_at 4 g p) (reach f found)) (record { reason = reason.Position; start = at; place = p; width = 4; rule = rule.WithinTrack t })

-- a record of a kind has one position, with these fields
abbrev pub OneSpot : List ℕ → List ℕ → Kind → Field → Field → Type 0
OneSpot f g k track position = (at : ℕ) → record_pair f g k at ≡ spot_facts f g at (lies (at + track.0) (at + position.0))

-- all records of a kind from a place on and before r obey, where all records before that place do: in every layout in which the records from
-- that place on and before another are of the kind
abbrev pub Onward : List ℕ → List ℕ → Kind → ℕ → ℕ → ℕ → Type 0
Onward f g k from until r =
    (l : Layout) → Sort l k from until → Walking g l (record_pair f g) from → Walking g l (record_pair f g) r
