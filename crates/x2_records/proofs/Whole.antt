-- The tables leave no gap: each field starts where the one before it ends, and the last one ends with the record. A balise's message starts
-- where the rest of it ends.
use mathlib.Core.Path.{◌≡◌, refl}
use mathlib.Core.Bool.{true}
use Rattle.tables.specs.Table.{tiles}
use Rattle.x2_records.specs.declared.Kind.{Kind}
use Rattle.x2_records.specs.declared.Kind.TheVariants as kind
use Rattle.x2_records.specs.Places as place
use Rattle.x2_records.specs.Rows.{table_of}
use Rattle.x2_records.specs.Records.{fixed_size}

pub whole : (k : Kind) → tiles 0 (table_of k) (fixed_size k) ≡ true
whole kind.StartBoundary = refl
whole kind.EndBoundary = refl
whole kind.Turnout = refl
whole kind.Balise = refl
whole kind.Signal = refl
whole kind.Joint = refl
whole kind.Siding = refl

pub message_after : place.balise_message ≡ place.balise_size
message_after = refl
