-- Degrees of whole milliarcseconds (02, ticket 14), as binary64 numbers by the kit's account of IEEE 754 (`Rattle.std.specs.Float.Ieee`): `of_int` converts a whole
-- number, `div` divides, each to the nearest number, of two equally near ones to the even one.
use Rattle.std.specs.Prelude.{ℕ, ℤ, pos, Float}
use Rattle.std.specs.Float.{binary64}
use Rattle.std.specs.Float.Ieee.{of_int, div}
use Rattle.degrees.specs.declared.Degrees.{Degrees}

-- how many milliarcseconds a degree has
abbrev pub degree : ℕ
degree = 3600000

-- one division of the converted number
-- 02: Ticket14.2
unfoldable pub degrees_of : ℤ → Float
degrees_of z = div binary64 (of_int binary64 z) (of_int binary64 (pos degree))

-- a latitude and a longitude
-- 01: Form.6
-- 02: Ticket14.1
abbrev pub in_degrees : ℤ → ℤ → Degrees
in_degrees latitude longitude = record { latitude = degrees_of latitude; longitude = degrees_of longitude }
