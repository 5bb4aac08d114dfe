-- Each answer on an X.2 file as the one shape of answers (crate verdict): the values in the order in which they are printed, or the fault.
use Rattle.x2_records.specs.declared.Record.{Record as Decoded}
use Rattle.std.specs.Prelude.{ℕ, zero, suc, List, [], ◌∷◌, ◌++◌, ℤ, pos}
use Rattle.verdict.specs.Answers.{Answer, answered, refused}
use Rattle.envelope.specs.Header.{header_values}
use Rattle.x2_records.specs.declared.Record.TheVariants as is
use Rattle.x2_records.specs.declared.boundaries.Boundary.{Boundary}
use Rattle.x2_records.specs.Tables.{direction_number, nature_number, group_direction_number, facing_number, duty_number}
use Rattle.x2_verdict.specs.declared.NamedHeader.{NamedHeader}
use Rattle.x2_verdict.specs.Results.{NamedHeaderAnswer}
use Rattle.std.specs.Prelude.{Ok, Err}
use Rattle.x2_verdict.specs.Results.{RecordAnswer}

-- ---- the header

-- structure version, data version, station; the name's place and how many bytes it has
abbrev pub named_header_values : NamedHeader → List ℤ
named_header_values h = header_values h.header ++ (pos h.name ∷ pos h.name_bytes ∷ [])

-- 01: Form.10
abbrev pub named_header_answer : NamedHeaderAnswer → Answer
named_header_answer (Ok h) = answered (named_header_values h)
named_header_answer (Err t) = refused 5 t

-- ---- the record

-- how many values there are: as many as the longest kinds have
abbrev pub value_count : ℕ
value_count = 12

-- a boundary's fields in the order of its table
abbrev pub boundary_fields : Boundary → List ℕ
boundary_fields b =
    b.entry
    ∷ b.link
    ∷ b.neighbour_station
    ∷ b.neighbour_type
    ∷ b.neighbour_track
    ∷ b.position
    ∷ b.track
    ∷ []

-- a record's kind by its number, 1 to 7 in stored order, and then its fields in the order of its table: a case by the table's number, a
-- name by its place and how many bytes it has, a message by its place
abbrev pub fields_of : Decoded → List ℕ
fields_of (is.StartBoundary b) = 1 ∷ boundary_fields b
fields_of (is.EndBoundary b) = 2 ∷ boundary_fields b
fields_of (is.Turnout t) =
    3
    ∷ t.number
    ∷ direction_number t.direction
    ∷ t.tip_position
    ∷ t.normal_position
    ∷ t.reverse_position
    ∷ t.front
    ∷ t.normal
    ∷ t.reverse
    ∷ t.front_track
    ∷ t.normal_track
    ∷ t.reverse_track
    ∷ []
fields_of (is.Balise b) =
    4
    ∷ b.previous
    ∷ b.next
    ∷ b.number
    ∷ b.size
    ∷ nature_number b.nature
    ∷ group_direction_number b.direction
    ∷ b.position
    ∷ b.track
    ∷ b.rank
    ∷ b.count
    ∷ b.message
    ∷ []
fields_of (is.Signal s) =
    5
    ∷ s.previous
    ∷ s.next
    ∷ s.name.place
    ∷ s.name.bytes
    ∷ s.position
    ∷ s.track
    ∷ facing_number s.direction
    ∷ duty_number s.duty
    ∷ []
fields_of (is.Joint j) = 6 ∷ j.previous ∷ j.next ∷ j.name.place ∷ j.name.bytes ∷ j.position ∷ j.track ∷ []
fields_of (is.Siding s) =
    7
    ∷ s.name.place
    ∷ s.name.bytes
    ∷ s.track
    ∷ s.up_balise
    ∷ s.up_signal.place
    ∷ s.up_signal.bytes
    ∷ s.down_balise
    ∷ s.down_signal.place
    ∷ s.down_signal.bytes
    ∷ []

-- n values: the numbers given, and zeros after them
abbrev pub filled : ℕ → List ℕ → List ℤ
filled zero l = []
filled (suc n) [] = pos 0 ∷ filled n []
filled (suc n) (x ∷ l) = pos x ∷ filled n l

abbrev pub record_values : Decoded → List ℤ
record_values r = filled value_count (fields_of r)

-- 01: Form.10
abbrev pub record_answer : RecordAnswer → Answer
record_answer (Ok r) = answered (record_values r)
record_answer (Err t) = refused value_count t
