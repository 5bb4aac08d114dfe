-- What an X.2 file is that obeys the standard as 01 reads it: header, layout, fields, agreement and links, as plain facts in 01's words and
-- order. The parts are defined where their checks are.
use Rattle.std.specs.Prelude.{ℕ, ◌≤◌, ◌≡◌, List, length, take}
use Rattle.octets.specs.Octets.{num_at}
use Rattle.checksum.specs.Checksum.{checksum_of}
use Rattle.envelope.specs.Seal.{most_length, end_of, type_at, structure_of}
use Rattle.x2_layout.specs.Layout.{layout_of}
use Rattle.x2_layout.specs.Obeys.{LayoutObeys}
use Rattle.x2_obeys.specs.Fields.{FieldsObey, AgreementObeys}
use Rattle.x2_obeys.specs.Links.{TargetsObey, ReturnsObey}
use Rattle.x2_verdict.specs.Facts.{least_length, file_type}

-- 02: Ticket13.4
pub record Obeys (f : List ℕ) : Type 0 where
  -- 01: No.1
  pub least : least_length ≤ length f
  -- 01: File.1, No.1
  pub most : length f ≤ most_length
  -- 01: Sum.7
  pub checksum : num_at 4 f (end_of f) ≡ checksum_of (take (end_of f) f)
  -- 01: X2.header.1
  pub file_type : num_at 1 f type_at ≡ file_type
  -- 01: X2.header.1
  -- 02: Ticket11.7
  pub structure_version : structure_of f ≡ 1
  pub layout : LayoutObeys f (layout_of f)
  pub fields : FieldsObey f (layout_of f)
  pub agreement : AgreementObeys f (layout_of f)
  pub targets : TargetsObey f (layout_of f)
  pub returns : ReturnsObey f (layout_of f)
