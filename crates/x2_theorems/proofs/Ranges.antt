-- THEOREM: whatever a question on an X.2 file answers fits in four bytes, since only an accepted file is answered of: the header lies in 01's
-- ranges; a record's numbers have at most four bytes, its cases are named by small numbers, and its places are in the file.
use Prim.Native.Nat.{ℕ, zero, suc, ◌+◌, ◌^◌, ◌≤◌, ◌<◌}
use mathlib.Core.Path.{◌≡◌, refl, sym, ap, subst, ◌∙◌}
use mathlib.Core.Bool.{Bool, true, false}
use mathlib.Core.List.{List, [], ◌∷◌}
use lib.ListN.{get_or}
use native.Mathlib.Nat.{pow-suc}
use native.Mathlib.Omega.{arith}
use Rattle.verdict.specs.declared.Reason.TheVariants.{Question}
use Rattle.std.specs.Prelude.{Ok, Err}
use Rattle.verdict.specs.Facts.{test}
use Rattle.verdict.specs.Answers.{answer_number}
use Rattle.verdict.proofs.Questions.{accepted_by, some_number}
use Rattle.octets.specs.Octets.{num_at}
use Rattle.rules.specs.Rules.{Between}
use Rattle.names.specs.Names.{name_at, naming_of, bytes_in}
use Rattle.names.proofs.Names.{bytes_most}
use Rattle.envelope.specs.Header.{header_in}
use Rattle.envelope.specs.Seal.{most_length}
use Rattle.x2_records.specs.declared.Kind.{Kind}
use Rattle.x2_records.specs.declared.Kind.TheVariants as kind
use Rattle.x2_records.specs.declared.Record.{Record}
use Rattle.x2_records.specs.declared.turnouts.Direction.{Direction}
use Rattle.x2_records.specs.declared.turnouts.Direction.TheVariants as direction
use Rattle.x2_records.specs.declared.balises.Nature.{Nature}
use Rattle.x2_records.specs.declared.balises.Nature.TheVariants as nature
use Rattle.x2_records.specs.declared.balises.GroupDirection.{GroupDirection}
use Rattle.x2_records.specs.declared.balises.GroupDirection.TheVariants as group
use Rattle.x2_records.specs.declared.signals.Facing.{Facing}
use Rattle.x2_records.specs.declared.signals.Facing.TheVariants as facing
use Rattle.x2_records.specs.declared.signals.Duty.{Duty}
use Rattle.x2_records.specs.declared.signals.Duty.TheVariants as duty
use Rattle.x2_records.specs.Records.{record_at}
use Rattle.x2_records.specs.Tables.{boundary_at, turnout_at, balise_at, signal_at, joint_at, siding_at, direction_number, nature_number, group_direction_number, facing_number, duty_number}
use Rattle.x2_layout.specs.Layout.{layout_of}
use Rattle.x2_layout.specs.Records.{kind_at, is_start}
use Rattle.x2_layout.proofs.Regions.{regions}
use Rattle.x2_layout.proofs.Bounds.{regions_bounded}
use Rattle.x2_layout.proofs.Starts.{start_tested, start_below}
use Rattle.x2_verdict.specs.declared.NamedHeader.{NamedHeader}
use Rattle.x2_verdict.specs.Facts.{verdict_of}
use Rattle.x2_verdict.specs.Answers.{named_header_answer, boundary_fields, fields_of, record_answer}
use Rattle.x2_verdict.specs.Questions.{named_header_in, named_header_of, record_if, record_of}
use Rattle.x2_verdict.proofs.Questions.{verdict_obeys, header_name}

-- ---- the header

pub record NamedRange (h : NamedHeader) : Type 0 where
  pub structure : h.header.structure ≡ 1
  pub version : Between 1 65535 h.header.«data»
  pub station : Between 1 65535 h.header.station
  pub name : h.name ≡ 7
  pub name_bytes : Between 2 16 h.name_bytes

pub named_range : (f : List ℕ) (h : NamedHeader) → named_header_of f ≡ Ok h → NamedRange h
unfolding named_header_of named_header_in header_in
named_range f h e =
    let a = accepted_by Err (verdict_of f) (Ok (named_header_in f)) (Ok h) (λ t q. some_number t.reason (ap answer_number (ap named_header_answer q))) e in
    let o = verdict_obeys f a.0 in
    let i : named_header_in f ≡ h = let q = a.1 in cc in
    let bytes = header_name f h e in
    let s = ap (λ (x : NamedHeader). x.header.structure) i in
    let d = ap (λ (x : NamedHeader). x.header.«data») i in
    let t = ap (λ (x : NamedHeader). x.header.station) i in
    let n = ap (λ (x : NamedHeader). x.name) i in
    let version = o.fields.data_version in
    let station = o.fields.station in
    record {
      structure = sym s ∙ o.structure_version;
      version = (omega arith, omega arith);
      station = (omega arith, omega arith);
      name = sym n;
      name_bytes = (bytes.0, bytes.1);
    }

-- ---- a record: bytes are below 256, and so a number of at most four of them below this

abbrev pub four_bytes : ℕ
four_bytes = 256 ^ 4

abbrev pub AllBelow : ℕ → List ℕ → Type 0
AllBelow n [] = Unit {0}
AllBelow n (x ∷ xs) = (x < n) × AllBelow n xs

-- the cases
direction_below : (d : Direction) → direction_number d < four_bytes
direction_below direction.Decreasing = omega arith
direction_below direction.Increasing = omega arith

nature_below : (n : Nature) → nature_number n < four_bytes
nature_below nature.Virtual = omega arith
nature_below nature.Physical = omega arith

group_below : (d : GroupDirection) → group_direction_number d < four_bytes
group_below group.Opposite = omega arith
group_below group.Same = omega arith

facing_below : (d : Facing) → facing_number d < four_bytes
facing_below facing.Neither = omega arith
facing_below facing.Down = omega arith
facing_below facing.Up = omega arith

duty_below : (d : Duty) → duty_number d < four_bytes
duty_below duty.Entry = omega arith
duty_below duty.Exit = omega arith
duty_below duty.Passing = omega arith
duty_below duty.Route = omega arith
duty_below duty.Shunting = omega arith

module _ (f : List ℕ) (bytes : (i : ℕ) → get_or f i 0 < 256) where
  number_below : (n i : ℕ) → num_at n f i < 256 ^ n
  unfolding num_at
  number_below zero i = omega arith
  number_below (suc n) i = omega (arith, pow-suc 256 n, bytes i, number_below n (i + 1))

  one : (i : ℕ) → num_at 1 f i < four_bytes
  one i = omega (arith, number_below 1 i)

  two : (i : ℕ) → num_at 2 f i < four_bytes
  two i = omega (arith, number_below 2 i)

  three : (i : ℕ) → num_at 3 f i < four_bytes
  three i = omega (arith, number_below 3 i)

  four : (i : ℕ) → num_at 4 f i < four_bytes
  four i = number_below 4 i

  name : (p : ℕ) → bytes_in (naming_of f p) < four_bytes
  name p = omega (arith, bytes_most f p)

  module _ (at : ℕ) (small : at ≤ most_length) where
    boundary_below : AllBelow four_bytes (boundary_fields (boundary_at f at))
    unfolding boundary_at
    boundary_below = (one (at + 0), (two (at + 1), (two (at + 3), (one (at + 5), (one (at + 6), (four (at + 7), (one (at + 11), tt)))))))

    -- of the record at a place of the file, whatever kind it is
    fields_below : (k : Kind) → AllBelow four_bytes (fields_of (record_at f k at))
    unfolding record_at turnout_at balise_at signal_at joint_at siding_at name_at
    fields_below kind.StartBoundary = (omega arith, boundary_below)
    fields_below kind.EndBoundary = (omega arith, boundary_below)
    fields_below kind.Turnout = (
      omega arith,
      (one (at + 1), (direction_below (turnout_at f at).direction, (four (at + 3), (four (at + 7), (four (at + 11), (two (at + 15), (two (at + 17), (two (at + 19), (one (at + 21), (one (at + 22), (one (at + 23), tt))))))))))),
    )
    fields_below kind.Balise = (
      omega arith,
      (two (at + 1), (two (at + 3), (three (at + 5), (one (at + 8), (nature_below (balise_at f at).nature, (group_below (balise_at f at).direction, (four (at + 10), (one (at + 14), (omega arith, (omega arith, (omega arith, tt))))))))))),
    )
    fields_below kind.Signal = (
      omega arith,
      (two (at + 1), (two (at + 3), (omega arith, (name (at + 5), (four (at + 13), (one (at + 17), (facing_below (signal_at f at).direction, (duty_below (signal_at f at).duty, tt)))))))),
    )
    fields_below kind.Joint = (omega arith, (two (at + 1), (two (at + 3), (omega arith, (name (at + 5), (four (at + 13), (one (at + 17), tt)))))))
    fields_below kind.Siding = (
      omega arith,
      (omega arith, (name (at + 1), (one (at + 9), (three (at + 10), (omega arith, (name (at + 13), (three (at + 21), (omega arith, (name (at + 24), tt))))))))),
    )

  -- where a record starts in an accepted file
  start_most : verdict_of f ≡ Ok tt → (x : ℕ) → test (is_start f (layout_of f) x) ≡ true → x ≤ most_length
  start_most e x s =
      let o = verdict_obeys f e in
      let whole = regions f o.layout in
      let end = (regions_bounded f (layout_of f) whole o.most).end in
      let below = start_below f (layout_of f) whole x ((start_tested f (layout_of f) x).0 s) in
      omega arith

  chosen : (t : Bool) (x : ℕ) (r : Record) → record_if t f x ≡ Ok r → (t ≡ true) × (record_at f (kind_at (layout_of f) x) x ≡ r)
  chosen true x r e = (refl, cc)
  chosen false x r e = absurd (some_number Question (ap answer_number (ap record_answer e)))

  -- THEOREM: every number of a record that is answered is one of at most four bytes.
  pub record_below : (x : ℕ) (r : Record) → record_of f x ≡ Ok r → AllBelow four_bytes (fields_of r)
  unfolding record_of
  record_below x r e =
      let starts = test (is_start f (layout_of f) x) in
      let a = accepted_by Err (verdict_of f) (record_if starts f x) (Ok r) (λ t q. some_number t.reason (ap answer_number (ap record_answer q))) e in
      let c = chosen starts x r a.1 in
      subst (λ (z : Record). AllBelow four_bytes (fields_of z)) c.1 (fields_below x (start_most a.0 x c.0) (kind_at (layout_of f) x))
