-- 01's yard Y, its X.1 of one track and two points, and their variants, judged: what is promised of accepted files is said of something,
-- and each variant is refused by the number and at the place that 01 gives. By computation, as the table of the P examples.
use Rattle.std.specs.Prelude.{ℕ, ◌≡◌, refl}
use mathlib.Core.List.{List, [], ◌∷◌, ◌++◌, flat_map}
use Rattle.checksum.specs.Checksum.{checksum_of, checksum_from, byte_step, bit_steps, bit_step, step}
use Rattle.octets.specs.Octets.{num_at, signed, signed_at}
use Rattle.verdict.specs.Reasons.{number_in, place_in, pair_number_in, pair_place_in, pair_file_in}
use Rattle.verdict.specs.Facts.{first_fault}
use Rattle.verdict.specs.Walk.{walk, starts_from}
use Rattle.names.specs.Names.{bytes_between, lead, name_length, is_name, object_name, code_count, codes, station_name}
use Rattle.x1_records.specs.Places.{point_size, least_length_in}
use Rattle.x1_layout.specs.Layout as x1-layout
use Rattle.x1_verdict.specs.Fields as x1-fields
use Rattle.x1_verdict.specs.Agreement as x1-agreement
use Rattle.x1_verdict.specs.Facts as x1
use Rattle.x1_lookup.specs.Lookup.{first_where, find_track}
use Rattle.x2_layout.specs.Layout.{layout_of}
use Rattle.x2_layout.specs.Groups.{made_of, groups_from, next_start, next_field, group_end, group_ends, balise_bytes, walk_layout, made_facts}
use Rattle.x2_layout.specs.Groups.{one_group, group_facts}
use Rattle.x2_layout.specs.Facts as x2-layout
use Rattle.x2_layout.specs.Records.{kind_at, size_of, is_start}
use Rattle.x2_kinds.specs.KindFields as x2-kinds
use Rattle.x2_fields.specs.Fields as x2-fields
use Rattle.x2_fields.specs.Agreement as x2-agreement
use Rattle.x2_links.specs.Links as x2-links
use Rattle.x2_verdict.specs.Facts as x2
use Rattle.pair.specs.Pair.{records_pair, pair_facts, pair_of}
use Rattle.examples_proved.specs.Table.{boundary}

-- yard Y with a reverse link of its turnout (in Y it is 68) and the checksum of that
-- 01: Yard.1, Yard.2, Yard.3, Yard.4, Case.14, Case.15
abbrev pub yard : ℕ → List ℕ → List ℕ
yard reverse sum =
    (2 ∷ 1 ∷ 0 ∷ 1 ∷ 0 ∷ 1 ∷ 0 ∷ [])
    ++ (0xB1 ∷ 0xB1 ∷ 0 ∷ 0 ∷ 0 ∷ 0 ∷ 0 ∷ 0 ∷ 0 ∷ 0 ∷ 0 ∷ 0 ∷ 0 ∷ 0 ∷ 0 ∷ 0 ∷ [])
    ++ (1 ∷ 1 ∷ 44 ∷ 0 ∷ [])
    ++ (2 ∷ 1 ∷ 56 ∷ 0 ∷ 1 ∷ 68 ∷ 0 ∷ [])
    ++ (80 ∷ 0 ∷ 0 ∷ 0 ∷ 0 ∷ 0 ∷ 0 ∷ 0 ∷ 0 ∷ 0 ∷ [])
    ++ boundary 0x01
    ++ boundary 0xFE
    ++ boundary 0xFE
    ++ (0x06 ∷ 1 ∷ 1 ∷ 0 ∷ 0 ∷ 0 ∷ 0 ∷ 0 ∷ 0 ∷ 0 ∷ 0 ∷ 0 ∷ 0 ∷ 0 ∷ 0 ∷ 44 ∷ 0 ∷ 56 ∷ 0 ∷ reverse ∷ 0 ∷ 1 ∷ 1 ∷ 1 ∷ [])
    ++ sum

-- X.1 with one track of one centimetre and two points, the last offset (51 where it is right), and the checksum of that
-- 01: Case.16, Case.17
abbrev pub track : ℕ → List ℕ → List ℕ
track last sum =
    (1 ∷ 1 ∷ 0 ∷ 1 ∷ 0 ∷ 1 ∷ 0 ∷ 1 ∷ [])
    ++ (1 ∷ 1 ∷ 0 ∷ 0 ∷ 0 ∷ 0 ∷ 0 ∷ 0 ∷ 0 ∷ 0 ∷ 0 ∷ 0 ∷ 0 ∷ 0 ∷ 1 ∷ 0 ∷ 0 ∷ 0 ∷ 0 ∷ 0 ∷ 0 ∷ 0 ∷ 0 ∷ 0 ∷ 0 ∷ 0 ∷ 38 ∷ 0 ∷ last ∷ 0 ∷ [])
    ++ (0 ∷ 0 ∷ 0 ∷ 0 ∷ 0 ∷ 0 ∷ 0 ∷ 0 ∷ 0 ∷ 0 ∷ 0 ∷ 0 ∷ 0 ∷ [])
    ++ (1 ∷ 0 ∷ 0 ∷ 0 ∷ 0 ∷ 0 ∷ 0 ∷ 0 ∷ 0 ∷ 0 ∷ 0 ∷ 0 ∷ 0 ∷ [])
    ++ sum

-- the same with heights (02, ticket 11): its structure version, the last offset (53 where it is right), the height of the second point and the
-- checksum. The first point's height is 0
abbrev pub high_track : ℕ → ℕ → List ℕ → List ℕ → List ℕ
high_track version last height sum =
    (1 ∷ version ∷ 0 ∷ 1 ∷ 0 ∷ 1 ∷ 0 ∷ 1 ∷ [])
    ++ (1 ∷ 1 ∷ 0 ∷ 0 ∷ 0 ∷ 0 ∷ 0 ∷ 0 ∷ 0 ∷ 0 ∷ 0 ∷ 0 ∷ 0 ∷ 0 ∷ 1 ∷ 0 ∷ 0 ∷ 0 ∷ 0 ∷ 0 ∷ 0 ∷ 0 ∷ 0 ∷ 0 ∷ 0 ∷ 0 ∷ 38 ∷ 0 ∷ last ∷ 0 ∷ [])
    ++ (0 ∷ 0 ∷ 0 ∷ 0 ∷ 0 ∷ 0 ∷ 0 ∷ 0 ∷ 0 ∷ 0 ∷ 0 ∷ 0 ∷ 0 ∷ 0 ∷ 0 ∷ [])
    ++ (1 ∷ 0 ∷ 0 ∷ 0 ∷ 0 ∷ 0 ∷ 0 ∷ 0 ∷ 0 ∷ 0 ∷ 0 ∷ 0 ∷ 0 ∷ [])
    ++ height
    ++ sum

-- a height of -1
abbrev below : List ℕ
below = 0xFF ∷ 0xFF ∷ []

abbrev pub one_high : List ℕ
one_high = high_track 2 53 below (0xDF ∷ 0xB3 ∷ 0xEC ∷ 0x41 ∷ [])

-- a version 2 file of 71 bytes, and one of version 3 of 70 bytes
abbrev pub too_short : List ℕ
too_short = high_track 2 53 (0xFF ∷ []) (0x5A ∷ 0x1A ∷ 0x4C ∷ 0x9D ∷ [])

abbrev pub unknown_version : List ℕ
unknown_version = high_track 3 53 [] (0xC7 ∷ 0x62 ∷ 0xCA ∷ 0x55 ∷ [])

abbrev pub y : List ℕ
y = yard 68 (0x5D ∷ 0xC8 ∷ 0x1A ∷ 0x1A ∷ [])

-- 01: Case.16
abbrev pub one_track : List ℕ
one_track = track 51 (0xDD ∷ 0xA9 ∷ 0xA6 ∷ 0x4C ∷ [])

pub data Case : Type 0 where
  -- a file, the number and the place of its verdict, as X.1 and as X.2
  first : List ℕ → ℕ → ℕ → Case
  -- the same by the version 1 reader
  first_by_version_1 : List ℕ → ℕ → ℕ → Case
  second : List ℕ → ℕ → ℕ → Case
  -- the two of a pair, and the file, the number and the place of its verdict
  pair : List ℕ → List ℕ → ℕ → ℕ → ℕ → Case

abbrev pub Says : Case → Type 0
Says (first f n p) = (number_in (x1.verdict_of f) ≡ n) × (place_in (x1.verdict_of f) ≡ p)
Says (first_by_version_1 f n p) = (number_in (x1.verdict_by 1 f) ≡ n) × (place_in (x1.verdict_by 1 f) ≡ p)
Says (second f n p) = (number_in (x2.verdict_of f) ≡ n) × (place_in (x2.verdict_of f) ≡ p)
Says (pair f g d n p) = (pair_file_in (pair_of f g) ≡ d) × (pair_number_in (pair_of f g) ≡ n) × (pair_place_in (pair_of f g) ≡ p)

abbrev pub All : List Case → Type 0
All [] = Unit {0}
All (c ∷ cs) = Says c × All cs

-- 01: Case.14, Case.15, Case.17, Account.8
abbrev pub table : List Case
table =
    second y 0 0
    ∷ second (yard 57 (0xEC ∷ 0x67 ∷ 0x20 ∷ 0xBC ∷ [])) 8 99
    ∷ second (yard 80 (0x4B ∷ 0x12 ∷ 0x10 ∷ 0x06 ∷ [])) 8 99
    ∷ second (yard 0 (0x13 ∷ 0x7A ∷ 0x3B ∷ 0x76 ∷ [])) 9 69
    ∷ second (yard 56 (0x52 ∷ 0x51 ∷ 0xDA ∷ 0x3B ∷ [])) 9 69
    ∷ first one_track 0 0
    ∷ first (track 50 (0x79 ∷ 0x80 ∷ 0x68 ∷ 0x41 ∷ [])) 6 36
    ∷ first (track 38 (0xA9 ∷ 0xBC ∷ 0xB2 ∷ 0xAA ∷ [])) 6 36
    ∷ pair one_track y 0 0 0
    ∷ first one_high 0 0
    ∷ first (high_track 2 52 below (0xB7 ∷ 0x16 ∷ 0x01 ∷ 0x6D ∷ [])) 6 36
    ∷ first (high_track 2 51 below (0xAF ∷ 0x6C ∷ 0x81 ∷ 0xAB ∷ [])) 6 36
    ∷ first (high_track 3 53 below (0x3F ∷ 0xB3 ∷ 0xD6 ∷ 0xCA ∷ [])) 4 1
    ∷ first too_short 1 0
    ∷ first unknown_version 4 1
    ∷ first_by_version_1 one_track 0 0
    ∷ first_by_version_1 one_high 4 1
    ∷ first_by_version_1 too_short 4 1
    ∷ pair one_high y 0 0 0
    ∷ []

-- THEOREM: every case of the table holds.
pub judged : All table
unfolding checksum_of checksum_from byte_step bit_steps bit_step step num_at signed signed_at flat_map first_fault walk starts_from bytes_between
    lead name_length is_name object_name code_count codes station_name x1-layout.entries x1-layout.due_at x1-layout.layout_facts x1-fields.all_points
    x1-fields.field_facts x1-agreement.points_of x1-agreement.track_agrees x1-agreement.agreement_facts x1.sized_facts x1.facts_by point_size
    least_length_in first_where
    find_track layout_of made_of groups_from next_start next_field group_end group_ends balise_bytes walk_layout made_facts one_group group_facts
    x2-layout.indexes x2-layout.offsets_layout x2-layout.layout_facts kind_at size_of is_start x2-fields.entries_fields x2-kinds.message_fields
    x2-kinds.kind_fields x2-fields.field_facts x2-agreement.entries_agree x2-agreement.kind_agrees x2-agreement.agreement_facts
    x2-links.is_target x2-links.target_facts x2-links.links_to x2-links.return_facts x2.record_facts x2.check_facts x2.facts records_pair pair_facts
    pair_of
judged = ((refl, refl), ((refl, refl), ((refl, refl), ((refl, refl), ((refl, refl), ((refl, refl), ((refl, refl), ((refl, refl), ((refl, refl, refl), ((refl, refl), ((refl, refl), ((refl, refl), ((refl, refl), ((refl, refl), ((refl, refl), ((refl, refl), ((refl, refl), ((refl, refl), ((refl, refl, refl), tt)))))))))))))))))))
