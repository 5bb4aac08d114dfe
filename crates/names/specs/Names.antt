-- Names (01, 'X.2, fixed application', 'Fields'; of objects by 02, ticket 10): the 8 bytes of an object's name and the 16 bytes of a
-- station's name, at a place p. Each rule stands here twice: as a claim, which can be computed, and as a record of plain facts with the
-- numbers that the papers print. proofs/Names has the theorems that the two say the same. Past the end of the file a byte counts as 0.
-- `lead` counts down how many numbers there are at most.
use Rattle.std.specs.Prelude.{ℕ, zero, suc, ◌+◌, ◌-◌, ◌*◌, ◌≤◌, ◌<◌, ◌≡◌, cond, List, ◌⊎◌, eqb}
use Rattle.octets.specs.Octets.{num_at}
use Rattle.rules.specs.Rules.{lies_between}
use Rattle.verdict.specs.declared.Reason.TheVariants.{Field}
use Rattle.verdict.specs.declared.Rule.TheVariants as rule
use Rattle.verdict.specs.Facts.{Claim, test, same, at_most, both, either, denied, every, Fact, fact}
use Rattle.verdict.specs.Walk.{starts_from}
use Rattle.names.specs.declared.Name.{Name}
use Rattle.std.specs.Prelude.{Option, Some, None}

-- ---- sizes and ranges

-- an object's name: how many bytes it has room for; the least of its bytes, which is a space and stands neither first nor last; the greatest
abbrev pub object_bytes : ℕ
object_bytes = 8

abbrev pub space : ℕ
space = 0x20

abbrev pub greatest_byte : ℕ
greatest_byte = 0x7E

-- the least number of bytes of a name, by whether its user allows it to be empty
-- 02: Ticket10.4
abbrev pub may_be_empty : ℕ
may_be_empty = 0

abbrev pub not_empty : ℕ
not_empty = 1

-- a station's name: how many bytes and how many codes it has room for
abbrev pub station_bytes : ℕ
station_bytes = 16

abbrev pub station_codes : ℕ
station_codes = 8

-- ---- bytes at a place

-- the byte that stands k bytes after p
abbrev pub byte_after : List ℕ → ℕ → ℕ → ℕ
byte_after f p k = num_at 1 f (p + k)

-- the numbers from one up to another
abbrev pub numbers : ℕ → ℕ → List ℕ
numbers from until = starts_from (λ k. 1) until from

-- each byte at p, from one up to another, lies between two numbers
unfoldable pub bytes_between : List ℕ → ℕ → ℕ → ℕ → ℕ → ℕ → Claim
bytes_between f p from until low high = every (numbers from until) (λ k. lies_between low high (byte_after f p k))

-- each byte at p, from one up to another, is 0x00
abbrev pub zeros : List ℕ → ℕ → ℕ → ℕ → Claim
zeros f p from until = bytes_between f p from until 0 0

-- how many of the first n numbers that g gives stand before the first 0
unfoldable pub lead : (ℕ → ℕ) → ℕ → ℕ
lead g zero = 0
lead g (suc n) = cond (eqb (g 0) 0) 0 (1 + lead (λ k. g (suc k)) n)

-- r is the count n, and at most `top`
pub record Counted (n top r : ℕ) : Type 0 where
  pub is : r ≡ n
  pub most : r ≤ top

-- ---- names of 8 bytes

-- how many bytes the name at p has: those before the first 0x00
unfoldable pub name_length : List ℕ → ℕ → ℕ
name_length f p = lead (λ k. byte_after f p k) object_bytes

-- a byte is not 0x20
abbrev pub no_space : ℕ → Claim
no_space b = denied (same b space)

-- the first `count` bytes are 0x20 to 0x7E, the first and the last of them not 0x20, and the rest up to the eighth are 0x00
unfoldable pub is_name : List ℕ → ℕ → ℕ → Claim
is_name f p count =
    both (bytes_between f p 0 count space greatest_byte)
    (both (no_space (byte_after f p 0)) (both (no_space (byte_after f p (count - 1))) (zeros f p count object_bytes)))

-- what the 8 bytes at p are: a name of so many bytes, or none
-- 02: Ticket10.2
unfoldable pub naming_of : List ℕ → ℕ → Option ℕ
naming_of f p = cond (test (is_name f p (name_length f p))) (Some (name_length f p)) None

-- how many bytes the name has; 0 where there is none
abbrev pub bytes_in : Option ℕ → ℕ
bytes_in (Some n) = n
bytes_in None = 0

-- the name at p: its place, and how many bytes it has
unfoldable pub name_at : List ℕ → ℕ → Name
name_at f p = record { place = p; bytes = bytes_in (naming_of f p) }

-- a name of `least` or more bytes
unfoldable pub object_name : List ℕ → ℕ → ℕ → Claim
object_name f p least = both (at_most least (name_length f p)) (is_name f p (name_length f p))

-- the same in plain facts: the 8 bytes at p are a name of `count` bytes
-- 02: Ticket10.1, Ticket10.2, Ticket10.3
pub record IsName (f : List ℕ) (p count : ℕ) : Type 0 where
  pub room : count ≤ 8
  pub bytes : (k : ℕ) → k < count → (0x20 ≤ byte_after f p k) × (byte_after f p k ≤ 0x7E)
  pub first : 0 < count → byte_after f p 0 ≡ 0x20 → ⊥
  pub last : 0 < count → byte_after f p (count - 1) ≡ 0x20 → ⊥
  pub rest : (k : ℕ) → count ≤ k → k < 8 → byte_after f p k ≡ 0

-- a right answer to what they are
-- 02: Ticket10.2
abbrev pub IsNaming : List ℕ → ℕ → Option ℕ → Type 0
IsNaming f p (Some n) = IsName f p n
IsNaming f p None = (n : ℕ) → IsName f p n → ⊥

-- they are a name of at least so many bytes: may_be_empty or not_empty
-- 01: X2.fields.15
-- 02: Ticket10.4, Ticket10.8
pub record ObjectName (f : List ℕ) (p least : ℕ) : Type 0 where
  pub count : ℕ
  pub enough : least ≤ count
  pub name : IsName f p count

-- ---- station name

-- how many codes of two bytes the name at p has
unfoldable pub code_count : List ℕ → ℕ → ℕ
code_count f p = lead (λ k. byte_after f p (2 * k)) station_codes

-- how many bytes the name at p has, without its closing zeros
abbrev pub station_name_length : List ℕ → ℕ → ℕ
station_name_length f p = 2 * code_count f p

-- two bytes are a code: the first 0x81 to 0xFE, the second 0x40 to 0x7E or 0x80 to 0xFE
abbrev pub is_code : ℕ → ℕ → Claim
is_code a b = both (lies_between 0x81 0xFE a) (either (lies_between 0x40 0x7E b) (lies_between 0x80 0xFE b))

-- the k-th pair of bytes at p, from 0, is a code
abbrev pub code_at : List ℕ → ℕ → ℕ → Claim
code_at f p k = is_code (byte_after f p (2 * k)) (byte_after f p (2 * k + 1))

-- the first n pairs of bytes at p are codes
unfoldable pub codes : List ℕ → ℕ → ℕ → Claim
codes f p n = every (numbers 0 n) (λ k. code_at f p k)

-- one to eight codes, then zeros up to the sixteenth byte
unfoldable pub station_name : List ℕ → ℕ → Claim
station_name f p = both (at_most 1 (code_count f p)) (both (codes f p (code_count f p)) (zeros f p (station_name_length f p) station_bytes))

-- the same in plain facts: the name has `count` codes
-- 01: X2.fields.19
pub record StationName (f : List ℕ) (p : ℕ) : Type 0 where
  pub count : ℕ
  pub enough : 1 ≤ count
  pub room : count ≤ 8
  pub first : (k : ℕ) → k < count → (0x81 ≤ byte_after f p (2 * k)) × (byte_after f p (2 * k) ≤ 0xFE)
  pub second :
      (k : ℕ) → k < count
      → ((0x40 ≤ byte_after f p (2 * k + 1)) × (byte_after f p (2 * k + 1) ≤ 0x7E))
      ⊎ ((0x80 ≤ byte_after f p (2 * k + 1)) × (byte_after f p (2 * k + 1) ≤ 0xFE))
  pub rest : (k : ℕ) → 2 * count ≤ k → k < 16 → byte_after f p k ≡ 0

-- ---- the constructors of facts; `start` is where the record starts

-- the 8 bytes at a place are an object's name of at least so many bytes
abbrev pub object_name_fact : List ℕ → ℕ → ℕ → ℕ → Fact
object_name_fact f start place least =
    fact (object_name f place least)
    (record { reason = Field; start = start; place = place; width = object_bytes; rule = rule.ObjectName least })

-- the 16 bytes at a place are a station's name
abbrev pub station_name_fact : List ℕ → ℕ → ℕ → Fact
station_name_fact f start place =
    fact (station_name f place) (record { reason = Field; start = start; place = place; width = station_bytes; rule = rule.StationName })
