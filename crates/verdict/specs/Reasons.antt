-- The table of 01, 'Verdicts and their order': the paper's number of each reason, and the numbers of an answer.
-- A refused answer has the reason's number and its place (and, for the pair, the file); an accepted one has 0 in each.
use Rattle.std.specs.Prelude.{ℕ, Ok, Err, Option, Some, None}
use Rattle.verdict.specs.declared.Reason.{Reason}
use Rattle.verdict.specs.declared.Reason.TheVariants.{Length, Checksum, FileType, Structure, Layout, Field, Agreement, Target}
use Rattle.verdict.specs.declared.Reason.TheVariants.{Return, Station, Track, Position, Question, Steps, Room, Kinds, Identity}
use Rattle.verdict.specs.declared.Reason.TheVariants.{Order, Piece}
use Rattle.verdict.specs.declared.Fault.{Fault}
use Rattle.verdict.specs.declared.File.{File}
use Rattle.verdict.specs.declared.File.TheVariants.{First, Second}
use Rattle.verdict.specs.declared.Mark.{Mark}
use Rattle.verdict.specs.declared.PairFault.{PairFault}
use Rattle.verdict.specs.Verdicts.{Verdict, PairVerdict, Judged}

-- the paper's number of a reason: 01's up to 15, then 02's, of which 16 waits for its ticket
-- 01: Form.10
abbrev pub number_of : Reason → ℕ
number_of Length = 1
number_of Checksum = 2
number_of FileType = 3
number_of Structure = 4
number_of Layout = 6
number_of Field = 5
number_of Agreement = 7
number_of Target = 8
number_of Return = 9
number_of Station = 10
number_of Track = 11
number_of Position = 12
number_of Question = 13
number_of Steps = 14
number_of Room = 15
number_of Kinds = 16
number_of Identity = 17
number_of Order = 18
number_of Piece = 19

-- the paper's number of a file of the pair
-- 01: Pair.5
abbrev pub file_of : File → ℕ
file_of First = 1
file_of Second = 2

-- the fault that a mark is reported as
abbrev pub fault_of : Mark → Fault
fault_of m = record { reason = m.reason; place = m.place }

-- the same of a mark of the pair itself, whose faults are of file 2
-- 01: Pair.5
abbrev pub own_fault : Mark → PairFault
own_fault m = record { file = Second; fault = fault_of m }

-- the verdict that is answered
abbrev pub shown_of : Judged → Verdict
shown_of (Ok tt) = Ok tt
shown_of (Err m) = Err (fault_of m)

-- the answer's number and place, for a file
-- 01: No.0, Form.10
abbrev pub number_in : Verdict → ℕ
number_in (Ok tt) = 0
number_in (Err t) = number_of t.reason

-- 01: Form.10
abbrev pub place_in : Verdict → ℕ
place_in (Ok tt) = 0
place_in (Err t) = t.place

-- the same of any answer, by its fault, if it has one
-- 01: No.0, Form.10
abbrev pub number_by : Option Fault → ℕ
number_by None = 0
number_by (Some t) = number_of t.reason

-- 01: Form.10
abbrev pub place_by : Option Fault → ℕ
place_by None = 0
place_by (Some t) = t.place

-- the answer's number, place and file, for a pair
-- 01: Ask.4, Form.10
abbrev pub pair_number_in : PairVerdict → ℕ
pair_number_in (Ok tt) = 0
pair_number_in (Err p) = number_of p.fault.reason

-- 01: Ask.4, Form.10
abbrev pub pair_place_in : PairVerdict → ℕ
pair_place_in (Ok tt) = 0
pair_place_in (Err p) = p.fault.place

-- 01: Pair.5, Ask.4, Form.10
abbrev pub pair_file_in : PairVerdict → ℕ
pair_file_in (Ok tt) = 0
pair_file_in (Err p) = file_of p.file
