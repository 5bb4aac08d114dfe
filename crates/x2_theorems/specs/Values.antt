-- What an enum of a decoded record stands for is the number that is stored (01: 'Every record handed out has the value that its bytes
-- mean'): put together again, the enums of a record are the byte that they were read from, so that nothing was collapsed. And what a record
-- has for a name is the name that stands there, by the rule of ticket 10.
use Rattle.std.specs.Prelude.{ℕ, ◌+◌, ◌*◌, ◌≤◌, ◌≡◌, List}
use Rattle.octets.specs.Octets.{num_at}
use Rattle.names.specs.declared.Name.{Name}
use Rattle.names.specs.Names.{IsName}
use Rattle.x2_records.specs.declared.Record.{Record}
use Rattle.x2_records.specs.declared.Record.TheVariants.{StartBoundary, EndBoundary, Turnout, Balise, Signal, Joint, Siding}
use Rattle.x2_records.specs.Tables.{direction_number, nature_number, group_direction_number, facing_number, duty_number}

-- of the record at a place. A balise's attribute has the direction in its top two bits and the nature in the others; a signal's byte has
-- the direction in its top two bits, the type in its low four, and 0 between them
-- 01: Form.8
abbrev pub EnumsKept : List ℕ → ℕ → Record → Type 0
EnumsKept f at (StartBoundary b) = Unit {0}
EnumsKept f at (EndBoundary b) = Unit {0}
EnumsKept f at (Turnout t) = direction_number t.direction ≡ num_at 1 f (at + 2)
EnumsKept f at (Balise b) = 64 * group_direction_number b.direction + nature_number b.nature ≡ num_at 1 f (at + 9)
EnumsKept f at (Signal s) = 64 * facing_number s.direction + duty_number s.duty ≡ num_at 1 f (at + 18)
EnumsKept f at (Joint j) = Unit {0}
EnumsKept f at (Siding s) = Unit {0}

-- a record's name is the one that stands at p, and has at least so many bytes
-- 02: Ticket10.7
pub record NameRead (f : List ℕ) (p least : ℕ) (name : Name) : Type 0 where
  pub place : name.place ≡ p
  pub right : IsName f p name.bytes
  pub enough : least ≤ name.bytes

-- the names of the record at a place: a signal and a siding have one, a joint and a siding's two exit signals may have none
-- 02: Ticket10.5, Ticket10.6, Ticket10.7
abbrev pub NamesRead : List ℕ → ℕ → Record → Type 0
NamesRead f at (StartBoundary b) = Unit {0}
NamesRead f at (EndBoundary b) = Unit {0}
NamesRead f at (Turnout t) = Unit {0}
NamesRead f at (Balise b) = Unit {0}
NamesRead f at (Signal s) = NameRead f (at + 5) 1 s.name
NamesRead f at (Joint j) = NameRead f (at + 5) 0 j.name
NamesRead f at (Siding s) = NameRead f (at + 1) 1 s.name × NameRead f (at + 13) 0 s.up_signal × NameRead f (at + 24) 0 s.down_signal
