-- What both files have alike: how long they are at most, End, where the first fields of the header stand, and checks 2 to 4 of 01's table:
-- the checksum, the file type and the structure version.
use Rattle.std.specs.Prelude.{ℕ, ◌-◌, List, [], ◌∷◌, length, take}
use Rattle.checksum.specs.Checksum.{checksum_of}
use Rattle.octets.specs.Octets.{num_at}
use Rattle.octets.specs.declared.Width.TheVariants.{One, Two, Four}
use Rattle.verdict.specs.Facts.{Fact}
use Rattle.verdict.specs.declared.Reason.TheVariants as reason
use Rattle.rules.specs.Rules.{is_number, between}

-- a file is at most 65,535 bytes
-- 01: File.1
abbrev pub most_length : ℕ
most_length = 65535

-- the checksum stands in the last four bytes
abbrev pub checksum_size : ℕ
checksum_size = 4

-- 'End': the length without the checksum
-- 01: File.2
abbrev pub end_of : List ℕ → ℕ
end_of f = length f - checksum_size

-- where the file type, the two versions and the station stand
abbrev pub type_at : ℕ
type_at = 0

abbrev pub structure_at : ℕ
structure_at = 1

abbrev pub data_at : ℕ
data_at = 3

abbrev pub station_at : ℕ
station_at = 5

-- the greatest number of a version, a station or a link, which has two bytes
abbrev pub number_most : ℕ
number_most = 65535

-- a file's structure version
abbrev pub structure_of : List ℕ → ℕ
structure_of f = num_at 2 f structure_at

-- the checksum covers all before it; the file type is the one that is due; the structure version is one of 1 to the newest that the
-- reader knows
-- 02: Ticket11.8
abbrev pub seal_facts : List ℕ → ℕ → ℕ → List Fact
seal_facts f type newest =
    is_number reason.Checksum f 0 (end_of f) Four (checksum_of (take (end_of f) f))
    ∷ is_number reason.FileType f 0 type_at One type
    ∷ between reason.Structure f 0 structure_at Two 1 newest
    ∷ []
