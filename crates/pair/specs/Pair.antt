-- The pair (01, 'The pair: ..'): X.1's fault, then X.2's, then 10, then by record and position in stored order 11 before 12. f is X.1, g is
-- X.2; the verdict also says the file.
use Rattle.std.specs.Prelude.{ℕ, List, [], ◌∷◌, ◌++◌}
use Rattle.octets.specs.Octets.{num_at}
use Rattle.verdict.specs.Facts.{Fact, fact, same, at_most, first_fault}
use Rattle.verdict.specs.Reasons.{fault_of}
use Rattle.verdict.specs.declared.Reason.TheVariants as reason
use Rattle.verdict.specs.declared.Rule.TheVariants as rule
use Rattle.verdict.specs.declared.File.TheVariants.{First, Second}
use Rattle.verdict.specs.Verdicts.{Judged}
use Rattle.std.specs.Prelude.{Ok, Err}
use Rattle.verdict.specs.Verdicts.{Verdict}
use Rattle.verdict.specs.Verdicts.{PairVerdict}
use Rattle.envelope.specs.Seal.{station_at}
use Rattle.tables.specs.Table.{value_of, field_place}
use Rattle.x1_records.specs.Rows as track
use Rattle.x1_verdict.specs.Facts as geography
use Rattle.std.specs.Prelude.{Option, Some, None}
use Rattle.x1_lookup.specs.Lookup.{find_track}
use Rattle.x2_records.specs.declared.Kind.{Kind}
use Rattle.x2_records.specs.declared.Kind.TheVariants as kind
use Rattle.x2_records.specs.Rows as row
use Rattle.x2_layout.specs.declared.Layout.{Layout}
use Rattle.x2_layout.specs.Layout.{layout_of}
use Rattle.x2_layout.specs.Records.{each_record}
use Rattle.x2_verdict.specs.Facts as application

-- ---- where a record stands on the tracks, in stored order

-- a track byte with a position field, or a track byte alone
pub data Spot : Type 0 where
  lies : ℕ → ℕ → Spot
  -- 01: Pair.2
  stands : ℕ → Spot

-- a turnout's tip, normal and reverse positions go with its front, normal and reverse tracks; a siding has a track alone
-- 01: Pair.2, Pair.3, Pair.4
abbrev pub spots : Kind → ℕ → List Spot
spots kind.StartBoundary at = lies (field_place at row.boundary_track) (field_place at row.boundary_position) ∷ []
spots kind.EndBoundary at = lies (field_place at row.boundary_track) (field_place at row.boundary_position) ∷ []
spots kind.Turnout at =
    lies (field_place at row.turnout_front_track) (field_place at row.turnout_tip_position)
    ∷ lies (field_place at row.turnout_normal_track) (field_place at row.turnout_normal_position)
    ∷ lies (field_place at row.turnout_reverse_track) (field_place at row.turnout_reverse_position)
    ∷ []
spots kind.Balise at = lies (field_place at row.balise_track) (field_place at row.balise_position) ∷ []
spots kind.Signal at = lies (field_place at row.signal_track) (field_place at row.signal_position) ∷ []
spots kind.Joint at = lies (field_place at row.joint_track) (field_place at row.joint_position) ∷ []
spots kind.Siding at = stands (field_place at row.siding_track) ∷ []

-- ---- the facts

-- 1 where a track was found
abbrev pub present : Option ℕ → ℕ
present (Some e) = 1
present None = 0

-- the end position of the track that was found
abbrev pub reach : List ℕ → Option ℕ → ℕ
reach f (Some e) = value_of f e track.end_position
reach f None = 0

-- 10: the stations are the same
abbrev pub same_station : List ℕ → List ℕ → Fact
same_station f g =
    fact (same (num_at 2 g station_at) (num_at 2 f station_at))
    (record { reason = reason.Station; start = 0; place = station_at; width = 2; rule = rule.SameStation })

-- 11: the track at t, of the record at `at`, is in X.1
abbrev pub in_first : List ℕ → List ℕ → ℕ → ℕ → Fact
in_first f g at t =
    fact (same (present (find_track f (num_at 1 g t))) 1)
    (record { reason = reason.Track; start = at; place = t; width = 1; rule = rule.InFirst })

-- 12: the position at p is at most the end of that track
abbrev pub within_track : List ℕ → List ℕ → ℕ → ℕ → ℕ → Fact
within_track f g at t p =
    fact (at_most (num_at 4 g p) (reach f (find_track f (num_at 1 g t))))
    (record { reason = reason.Position; start = at; place = p; width = 4; rule = rule.WithinTrack t })

abbrev pub spot_facts : List ℕ → List ℕ → ℕ → Spot → List Fact
spot_facts f g at (lies t p) = in_first f g at t ∷ within_track f g at t p ∷ []
spot_facts f g at (stands t) = in_first f g at t ∷ []

abbrev pub spots_facts : List ℕ → List ℕ → ℕ → List Spot → List Fact
spots_facts f g at [] = []
spots_facts f g at (s ∷ ss) = spot_facts f g at s ++ spots_facts f g at ss

abbrev pub record_pair : List ℕ → List ℕ → Kind → ℕ → List Fact
record_pair f g k at = spots_facts f g at (spots k at)

unfoldable pub records_pair : List ℕ → List ℕ → Layout → List Fact
records_pair f g l = each_record g l (record_pair f g)

unfoldable pub pair_facts : List ℕ → List ℕ → Layout → List Fact
pair_facts f g l = same_station f g ∷ records_pair f g l

-- ---- the verdict

abbrev pub of_first : Verdict → PairVerdict → PairVerdict
of_first (Err t) r = Err (record { file = First; fault = t })
of_first (Ok tt) r = r

abbrev pub of_second : Verdict → PairVerdict → PairVerdict
of_second (Err t) r = Err (record { file = Second; fault = t })
of_second (Ok tt) r = r

-- the pair's own faults are of file 2
abbrev pub of_pair : Judged → PairVerdict
of_pair (Ok tt) = Ok tt
of_pair (Err m) = Err (record { file = Second; fault = fault_of m })

-- 02: Ticket7.5
unfoldable pub pair_of : List ℕ → List ℕ → PairVerdict
pair_of f g = of_first (geography.verdict_of f) (of_second (application.verdict_of g) (of_pair (first_fault (pair_facts f g (layout_of g)))))
