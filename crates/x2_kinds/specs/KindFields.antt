-- The fields of a record of each kind (01, 'Fields'), in the order of its table, and a balise's message; links are judged later and sizes
-- were judged before. f is the file and `at` the record's start.
use Rattle.std.specs.Prelude.{ℕ, ◌+◌, ◌-◌, cond, List, [], ◌∷◌, ◌++◌, ltb}
use Rattle.octets.specs.Octets.{num_at}
use Rattle.verdict.specs.Facts.{Fact, fact, same}
use Rattle.verdict.specs.declared.Reason.TheVariants as reason
use Rattle.verdict.specs.declared.Rule.TheVariants as rule
use Rattle.tables.specs.Table.{value_of}
use Rattle.tables.specs.Rows.{table_facts}
use Rattle.x2_records.specs.declared.Kind.{Kind}
use Rattle.x2_records.specs.declared.Kind.TheVariants as kind
use Rattle.x2_records.specs.Places as place
use Rattle.x2_records.specs.Rows.{balise_size_byte, table_of}

-- the byte that ends a message
abbrev pub message_end : ℕ
message_end = 0xFF

-- the last of so many bytes at a place is this one
abbrev pub last_byte : List ℕ → ℕ → ℕ → ℕ → ℕ → Fact
last_byte f start place width n =
    fact (same (num_at 1 f (place + width - 1)) n)
    (record { reason = reason.Field; start = start; place = place; width = width; rule = rule.LastByte n })

-- the size byte of a balise
abbrev pub size_byte_of : List ℕ → ℕ → ℕ
size_byte_of f at = value_of f at balise_size_byte

-- N is 0, or the last byte is 0xFF: a balise has a message where it is larger than its fixed fields
unfoldable pub message_fields : List ℕ → ℕ → List Fact
message_fields f at =
    cond (ltb place.balise_size (size_byte_of f at))
    (last_byte f at (at + place.balise_message) (size_byte_of f at - place.balise_size) message_end ∷ []) []

-- what a table does not say: only a balise has a message
abbrev pub message_of : List ℕ → Kind → ℕ → List Fact
message_of f kind.StartBoundary at = []
message_of f kind.EndBoundary at = []
message_of f kind.Turnout at = []
message_of f kind.Balise at = message_fields f at
message_of f kind.Signal at = []
message_of f kind.Joint at = []
message_of f kind.Siding at = []

-- a record of a kind
unfoldable pub kind_fields : List ℕ → Kind → ℕ → List Fact
kind_fields f k at = table_facts f at (table_of k) ++ message_of f k at
