-- X.2's agreement (01, 'Agreement'), in byte order: a header boundary's track equals its record's, for the start boundaries and then for
-- the end boundaries; a balise's place is at most its count; and (02, ticket 2) the record directly before a balise of place above 1 is a
-- balise of the same count and a lower place.
use Rattle.std.specs.Prelude.{ℕ, suc, ◌+◌, ◌*◌}
use mathlib.Core.List.{List, [], ◌∷◌, ◌++◌, flat_map}
use Rattle.octets.specs.declared.Width.TheVariants.{One}
use Rattle.verdict.specs.Facts.{Claim, always, same, at_most, both, either, denied, Fact, fact}
use Rattle.verdict.specs.declared.Reason.TheVariants as reason
use Rattle.verdict.specs.declared.Rule.TheVariants as rule
use Rattle.rules.specs.Rules.{same_as}
use Rattle.x2_records.specs.declared.Kind.{Kind}
use Rattle.x2_records.specs.declared.Kind.TheVariants as kind
use Rattle.tables.specs.Table.{value_of, field_place}
use Rattle.x2_records.specs.Places as place
use Rattle.x2_records.specs.Rows as row
use Rattle.x2_records.specs.Tables.{rank_of, group_count_of}
use Rattle.x2_layout.specs.declared.Layout.{Layout}
use Rattle.x2_layout.specs.Places.{start_entries_at, end_entries_at}
use Rattle.x2_layout.specs.Facts.{indexes}
use Rattle.x2_layout.specs.Records.{kind_at, starts, record_before}
use Rattle.x2_fields.specs.Fields.{header_track_at}

-- ---- the boundaries

-- where the track stands in the boundary with the index i, of those from `from` on
abbrev pub own_track_at : ℕ → ℕ → ℕ
own_track_at from i = from + place.boundary_size * i + (row.boundary_track).offset

abbrev pub entry_agrees : List ℕ → ℕ → ℕ → ℕ → List Fact
entry_agrees f entries from i = same_as f 0 (header_track_at entries i) One (header_track_at entries i) (own_track_at from i) ∷ []

unfoldable pub entries_agree : List ℕ → ℕ → ℕ → ℕ → List Fact
entries_agree f entries from count = flat_map (entry_agrees f entries from) (indexes count)

-- ---- the balises

-- the group byte of a balise
abbrev pub group_byte_of : List ℕ → ℕ → ℕ
group_byte_of f at = value_of f at row.balise_group

-- a balise's rank, which 01 calls its place, is at most its count
abbrev pub rank_in_count : List ℕ → ℕ → Fact
rank_in_count f at =
    fact (at_most (rank_of (group_byte_of f at)) (group_count_of (group_byte_of f at)))
    (record { reason = reason.Agreement; start = at; place = field_place at row.balise_group; width = 1; rule = rule.RankInCount })

-- the record of a kind at `before` is a balise of the same count and a lower rank than the balise at `at`
unfoldable pub goes_before : List ℕ → Kind → ℕ → ℕ → Claim
goes_before f kind.StartBoundary before at = denied always
goes_before f kind.EndBoundary before at = denied always
goes_before f kind.Turnout before at = denied always
goes_before f kind.Balise before at =
    both (same (group_count_of (group_byte_of f before)) (group_count_of (group_byte_of f at)))
    (at_most (suc (rank_of (group_byte_of f before))) (rank_of (group_byte_of f at)))
goes_before f kind.Signal before at = denied always
goes_before f kind.Joint before at = denied always
goes_before f kind.Siding before at = denied always

-- a balise is the first of its group, or in sequence: such a record is the one directly before it, at `before`
-- 02: Ticket2.2
abbrev pub in_sequence : List ℕ → Layout → ℕ → ℕ → Fact
in_sequence f l before at =
    fact (either (same (rank_of (group_byte_of f at)) 1) (goes_before f (kind_at l before) before at))
    (record {
      reason = reason.Agreement;
      start = at;
      place = field_place at row.balise_group;
      width = 1;
      rule = rule.InSequence (field_place before row.balise_group);
    })

-- only a balise has such rules
unfoldable pub kind_agrees : List ℕ → Layout → ℕ → Kind → ℕ → List Fact
kind_agrees f l before kind.StartBoundary at = []
kind_agrees f l before kind.EndBoundary at = []
kind_agrees f l before kind.Turnout at = []
kind_agrees f l before kind.Balise at = rank_in_count f at ∷ in_sequence f l before at ∷ []
kind_agrees f l before kind.Signal at = []
kind_agrees f l before kind.Joint at = []
kind_agrees f l before kind.Siding at = []

abbrev pub record_agrees : List ℕ → Layout → ℕ → List Fact
record_agrees f l at = kind_agrees f l (record_before f l at) (kind_at l at) at

-- ---- all of them

unfoldable pub agreement_facts : List ℕ → Layout → List Fact
agreement_facts f l =
    entries_agree f start_entries_at l.starts l.n
    ++ (entries_agree f (end_entries_at l.n) l.ends l.k ++ flat_map (record_agrees f l) (starts f l))
