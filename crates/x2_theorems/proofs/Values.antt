-- On an accepted file every enum of a record goes back to the stored number, and every name of a record is one by the rule.
use Prim.Native.Nat.{ℕ, ◌+◌, ◌*◌, ◌≤◌, ◌<◌}
use native.Mathlib.Omega.{arith}
use mathlib.Core.Path.{◌≡◌, refl}
use mathlib.Core.Logic.{inl, inr}
use mathlib.Core.List.{List, Memᴰ}
use lib.ListN.{get_or}
use Rattle.octets.specs.Octets.{num_at}
use Rattle.std.specs.Prelude.{Ok, Err}
use Rattle.x2_records.specs.declared.Kind.{Kind}
use Rattle.x2_records.specs.declared.Kind.TheVariants as kind
use Rattle.x2_records.specs.Records.{record_at}
use Rattle.names.specs.Names.{name_at, ObjectName}
use Rattle.names.proofs.Names.{bytes_are}
use Rattle.x2_records.specs.Tables.{turnout_at, balise_at, signal_at, joint_at, siding_at, nature_of, group_direction_of, nature_number, group_direction_number}
use Rattle.x2_theorems.proofs.RecordNumbers.{direction_kept, facing_kept, duty_kept}
use Rattle.x2_layout.specs.Layout.{layout_of}
use Rattle.x2_layout.specs.Records.{kind_at, starts}
use Rattle.x2_obeys.specs.Fields.{OneOfTwo, OneOfFour, RecordObeys}
use Rattle.x2_verdict.specs.Facts.{verdict_of}
use Rattle.x2_theorems.specs.Values.{EnumsKept, NameRead, NamesRead}
use Rattle.x2_verdict.proofs.Questions.{verdict_obeys}

two_most : (x : ℕ) → OneOfTwo 0 1 x → x ≤ 1
two_most x (inl e) = omega arith
two_most x (inr e) = omega arith

attribute : (x : ℕ) → OneOfFour 0x40 0x41 0x80 0x81 x → 64 * group_direction_number (group_direction_of x) + nature_number (nature_of x) ≡ x
unfolding group_direction_of nature_of
attribute x (inl e) = rw e refl
attribute x (inr (inl e)) = rw e refl
attribute x (inr (inr (inl e))) = rw e refl
attribute x (inr (inr (inr e))) = rw e refl

-- of a record that obeys its table; a byte is below 256
kept : (f : List ℕ) → ((i : ℕ) → get_or f i 0 < 256) → (k : Kind) (at : ℕ) → RecordObeys f k at → EnumsKept f at (record_at f k at)
unfolding record_at turnout_at balise_at signal_at num_at
kept f bytes kind.StartBoundary at o = tt
kept f bytes kind.EndBoundary at o = tt
kept f bytes kind.Turnout at o = direction_kept (num_at 1 f (at + 2)) (two_most (num_at 1 f (at + 2)) o.direction)
kept f bytes kind.Balise at o = attribute (num_at 1 f (at + 9)) o.attribute
kept f bytes kind.Signal at o =
    let x = num_at 1 f (at + 18) in
    let low = o.low in
    let facing = facing_kept x o.top in
    let duty = duty_kept x (omega arith) (omega arith) in
    let b = bytes (at + 18) in
    let m = o.middle in
    omega arith
kept f bytes kind.Joint at o = tt
kept f bytes kind.Siding at o = tt

-- THEOREM: in an accepted file the enums of each record, put together again, are the byte that is stored
pub enums_kept : (f : List ℕ) → ((i : ℕ) → get_or f i 0 < 256) → verdict_of f ≡ Ok tt → (at : ℕ) → Memᴰ at (starts f (layout_of f)) → EnumsKept f at (record_at f (kind_at (layout_of f) at) at)
enums_kept f bytes e at m = kept f bytes (kind_at (layout_of f) at) at ((verdict_obeys f e).fields.each_record at m)

-- ---- names

name_read : (f : List ℕ) (p least : ℕ) → ObjectName f p least → NameRead f p least (name_at f p)
unfolding name_at
name_read f p least o =
    let e = bytes_are o.name in
    record { place = refl; right = rw e o.name; enough = rw e o.enough }

named : (f : List ℕ) (k : Kind) (at : ℕ) → RecordObeys f k at → NamesRead f at (record_at f k at)
unfolding record_at signal_at joint_at siding_at
named f kind.StartBoundary at o = tt
named f kind.EndBoundary at o = tt
named f kind.Turnout at o = tt
named f kind.Balise at o = tt
named f kind.Signal at o = name_read f (at + 5) 1 o.name
named f kind.Joint at o = name_read f (at + 5) 0 o.name
named f kind.Siding at o = (name_read f (at + 1) 1 o.name, name_read f (at + 13) 0 o.up_signal, name_read f (at + 24) 0 o.down_signal)

-- THEOREM (02, ticket 10): in an accepted file each name of a record is one by the rule, of as many bytes as the record says
pub names_read : (f : List ℕ) → verdict_of f ≡ Ok tt → (at : ℕ) → Memᴰ at (starts f (layout_of f)) → NamesRead f at (record_at f (kind_at (layout_of f) at) at)
names_read f e at m = named f (kind_at (layout_of f) at) at ((verdict_obeys f e).fields.each_record at m)
