-- The header that both files have alike (01, 'X.1' and 'X.2', 'Header'): after the file type the structure version, the data version and
-- the station, of two bytes each.
use Rattle.std.specs.Prelude.{ℕ, List, [], ◌∷◌, ℤ, pos}
use Rattle.octets.specs.Octets.{num_at}
use Rattle.envelope.specs.Seal.{data_at, station_at, structure_of}
use Rattle.envelope.specs.declared.Header.{Header}

-- the header of a file
-- 01: X1.header.1, X2.header.1
unfoldable pub header_in : List ℕ → Header
header_in f = record { structure = structure_of f; «data» = num_at 2 f data_at; station = num_at 2 f station_at }

-- its values in the order of the file
abbrev pub header_values : Header → List ℤ
header_values h = pos h.structure ∷ pos h.«data» ∷ pos h.station ∷ []
