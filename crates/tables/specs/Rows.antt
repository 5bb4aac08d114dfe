-- What a table of fields means, for any table: the facts that a check goes through, and the statement that the fields obey. f is the file
-- and `at` the start of the record. proofs/Rows has the laws that join the two.
use Rattle.std.specs.Prelude.{ℕ, ◌+◌, ◌/◌, ◌%◌, ◌≤◌, ◌≡◌, ◌⊎◌, nat_abs}
use mathlib.Core.List.{List, [], ◌∷◌, ◌++◌, Memᴰ}
use Rattle.octets.specs.Octets.{num_at, signed_at}
use Rattle.verdict.specs.Facts.{Claim, same, at_most, Fact, fact}
use Rattle.verdict.specs.declared.Reason.TheVariants as reason
use Rattle.verdict.specs.declared.Mark.{Mark}
use Rattle.verdict.specs.declared.Rule.{Rule}
use Rattle.verdict.specs.declared.Rule.TheVariants as rule
use Rattle.rules.specs.Rules.{lies_between, is_among_four, is_among_five, Between}
use Rattle.tables.specs.Table.{Part, bits, Values, any, link, exactly, between, within, among_four, among_five, named, parts, Row}
use Rattle.names.specs.Names.{object_name, ObjectName}

-- ---- as facts

-- the mark of a rule of the field that stands k bytes after `at` and has w bytes
abbrev pub field_mark : ℕ → ℕ → ℕ → Rule → Mark
field_mark at k w r = record { reason = reason.Field; start = at; place = at + k; width = w; rule = r }

-- a claim on that field
abbrev pub asked : ℕ → ℕ → ℕ → Claim → Rule → Fact
asked at k w c r = fact c (field_mark at k w r)

abbrev pub part_facts : List ℕ → ℕ → ℕ → ℕ → List Part → List Fact
part_facts f at k w [] = []
part_facts f at k w (bits over modulo low high ∷ ps) =
    asked at k w (lies_between low high (num_at w f (at + k) / over % modulo)) (rule.Part over modulo low high) ∷ part_facts f at k w ps

abbrev pub value_facts : List ℕ → ℕ → ℕ → ℕ → Values → List Fact
value_facts f at k w any = []
value_facts f at k w link = []
value_facts f at k w (exactly n) = asked at k w (same (num_at w f (at + k)) n) (rule.Is n) ∷ []
value_facts f at k w (between low high) = asked at k w (lies_between low high (num_at w f (at + k))) (rule.Between low high) ∷ []
value_facts f at k w (within limit) = asked at k w (at_most (nat_abs (signed_at w f (at + k))) limit) (rule.Within limit) ∷ []
value_facts f at k w (among_four a b c d) = asked at k w (is_among_four a b c d (num_at w f (at + k))) (rule.AmongFour a b c d) ∷ []
value_facts f at k w (among_five a b c d e) = asked at k w (is_among_five a b c d e (num_at w f (at + k))) (rule.AmongFive a b c d e) ∷ []
value_facts f at k w (named least) = asked at k w (object_name f (at + k) least) (rule.ObjectName least) ∷ []
value_facts f at k w (parts ps) = part_facts f at k w ps

abbrev pub row_facts : List ℕ → ℕ → Row → List Fact
row_facts f at r = value_facts f at r.offset r.width r.values

abbrev pub table_facts : List ℕ → ℕ → List Row → List Fact
table_facts f at [] = []
table_facts f at (r ∷ rs) = row_facts f at r ++ table_facts f at rs

-- ---- as a statement

-- x has each of the parts
abbrev pub HasParts : ℕ → List Part → Type 0
HasParts x [] = Unit {0}
HasParts x (bits over modulo low high ∷ ps) = Between low high (x / over % modulo) × HasParts x ps

-- the w bytes at p are one of the values
abbrev pub Allowed : List ℕ → ℕ → ℕ → Values → Type 0
Allowed f p w any = Unit {0}
Allowed f p w link = Unit {0}
Allowed f p w (exactly n) = num_at w f p ≡ n
Allowed f p w (between low high) = Between low high (num_at w f p)
Allowed f p w (within limit) = nat_abs (signed_at w f p) ≤ limit
Allowed f p w (among_four a b c d) = (num_at w f p ≡ a) ⊎ ((num_at w f p ≡ b) ⊎ ((num_at w f p ≡ c) ⊎ (num_at w f p ≡ d)))
Allowed f p w (among_five a b c d e) =
    (num_at w f p ≡ a) ⊎ ((num_at w f p ≡ b) ⊎ ((num_at w f p ≡ c) ⊎ ((num_at w f p ≡ d) ⊎ (num_at w f p ≡ e))))
Allowed f p w (named least) = ObjectName f p least
Allowed f p w (parts ps) = HasParts (num_at w f p) ps

-- a row's field has one of its values
abbrev pub RowObeys : List ℕ → ℕ → Row → Type 0
RowObeys f at r = Allowed f (at + r.offset) r.width r.values

-- every field of the table has one of its values
pub record TableObeys (f : List ℕ) (at : ℕ) (t : List Row) : Type 0 where
  pub each : (r : Row) → Memᴰ r t → RowObeys f at r

-- p is the place of a field of the table that has none of its values
-- 01: No.5
-- 02: Ticket10.8
pub record RowAtFault (f : List ℕ) (at : ℕ) (t : List Row) (p : ℕ) : Type 0 where
  pub which : Row
  pub there : Memᴰ which t
  pub stands : p ≡ at + which.offset
  pub fails : RowObeys f at which → ⊥

-- p is the lowest of them
pub record LowestAtFault (f : List ℕ) (at : ℕ) (t : List Row) (p : ℕ) : Type 0 where
  pub fault : RowAtFault f at t p
  pub least : (q : ℕ) → RowAtFault f at t q → p ≤ q

-- ---- a table leaves no gap

-- each row stands where the one before it ends, the first at `from`, and the last one ends at `end`
pub data Tiled : ℕ → List Row → ℕ → Type 0 where
  done : {end : ℕ} → Tiled end [] end
  next : {from end : ℕ} {r : Row} {rs : List Row} → from ≡ r.offset → Tiled (from + r.width) rs end → Tiled from (r ∷ rs) end

-- the byte k of a record lies in a row's field
pub record InRow (t : List Row) (k : ℕ) : Type 0 where
  pub which : Row
  pub there : Memᴰ which t
  pub from : which.offset ≤ k
  pub to : k + 1 ≤ which.offset + which.width
