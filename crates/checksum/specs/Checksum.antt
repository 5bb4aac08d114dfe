-- The checksum (6.6 of the standard, 'Bytes and checksum' of document 01), in the page's order and words: 32 bits, the twelve terms,
-- the start value; a term of degree 32 is understood above the terms; each byte enters at the high end, high bit first; no final change.
-- Registers, bits and bytes are numbers, and `bit_xor` is their exclusive or.
use Rattle.std.specs.Prelude.{◌≡◌, List, [], ◌∷◌, ℕ, ◌+◌, ◌-◌, ◌*◌, ◌/◌, ◌%◌, ◌^◌, ◌<◌, get_or}
use Rattle.std.specs.Int.Bits.{bit_xor}

-- the terms, as the page prints them
-- 01: Sum.2
-- 02: Ticket3.1
abbrev pub terms : List ℕ
terms = 31 ∷ 30 ∷ 28 ∷ 25 ∷ 19 ∷ 18 ∷ 16 ∷ 15 ∷ 11 ∷ 9 ∷ 7 ∷ 0 ∷ []

-- the start value
-- 01: Sum.3
abbrev pub start : ℕ
start = 0xFFFFFFFF

-- the polynomial: a term of degree 32 is understood above the terms
-- 01: Sum.4, Wrong.1
abbrev pub polynomial : List ℕ
polynomial = 32 ∷ terms

-- the register's bits: as many as the longest term says
-- 01: Sum.1, Wrong.1
abbrev pub width : ℕ
width = get_or polynomial 0 0

-- a one at the place of each term; of the page's terms this is the mask that 01 prints (proofs, Mask: mask-is)
-- 01: Sum.4
abbrev pub ones : List ℕ → ℕ
ones [] = 0
ones (k ∷ ks) = 2 ^ k + ones ks

-- the bit at the register's high end
abbrev pub top : ℕ → ℕ
top r = r / 2 ^ (width - 1)

-- the register moves up one place; where a one leaves it at the high end, the polynomial is taken off
unfoldable pub step : ℕ → ℕ
step r = bit_xor (top r * ones polynomial) (r * 2)

-- a bit d enters at the high end
-- 01: Sum.5
unfoldable pub bit_step : ℕ → ℕ → ℕ
bit_step r d = step (bit_xor (d * 2 ^ (width - 1)) r)

-- the places of a byte's bits, high bit first
-- 01: Sum.5
abbrev pub high_first : List ℕ
high_first = 7 ∷ 6 ∷ 5 ∷ 4 ∷ 3 ∷ 2 ∷ 1 ∷ 0 ∷ []

-- the bits of b at these places enter, one after the other
unfoldable pub bit_steps : List ℕ → ℕ → ℕ → ℕ
bit_steps [] r b = r
bit_steps (k ∷ ks) r b = bit_steps ks (bit_step r (b / 2 ^ k % 2)) b

-- a byte b enters
-- 01: Sum.5
unfoldable pub byte_step : ℕ → ℕ → ℕ
byte_step r b = bit_steps high_first r b

-- the bytes enter, one after the other
unfoldable pub checksum_from : ℕ → List ℕ → ℕ
checksum_from r [] = r
checksum_from r (b ∷ bs) = checksum_from (byte_step r b) bs

-- the checksum of the bytes: what they make of the start value, with no final change
-- 01: Sum.6, Account.9
-- 02: Ticket3.2
unfoldable pub checksum_of : List ℕ → ℕ
checksum_of s = checksum_from start s

-- what the functions promise: r is the checksum of the bytes s, and fits in four bytes
pub record Checksum (s : List ℕ) (r : ℕ) : Type 0 where
  pub is : r ≡ checksum_of s
  -- 01: Sum.1
  pub below : r < 4294967296
