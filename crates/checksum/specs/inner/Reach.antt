-- How the code passes bytes on (src/reach.rt); no reader of the checksum need know it. The bytes that were passed on stand in a list, the
-- newest first, and before the first of them stands nothing: a byte that is not there brings nothing.
use Rattle.std.specs.Prelude.{◌≡◌, List, [], ◌∷◌, ℕ, ◌+◌, length, get_or}
use Rattle.std.specs.Int.Bits.{bit_xor}
use Rattle.checksum.specs.Checksum.{checksum_from, checksum_of}

-- the bytes that make the start value of an empty register
abbrev pub lead : List ℕ
lead = 0x8F ∷ 0x31 ∷ 0x17 ∷ 0xF5 ∷ []

-- what the next byte is brought, by those that stand 190, 246, 299 and 341 places before it
abbrev pub brought : List ℕ → ℕ
brought ps = bit_xor (bit_xor (bit_xor (get_or ps 189 0) (get_or ps 245 0)) (get_or ps 298 0)) (get_or ps 340 0)

-- the same by a row: the byte stands at its place k after the first 341, and the newest that was passed on right before it
abbrev pub brought_at : List ℕ → ℕ → ℕ
brought_at row k = bit_xor (bit_xor (bit_xor (get_or row (151 + k) 0) (get_or row (95 + k) 0)) (get_or row (42 + k) 0)) (get_or row k 0)

-- the bytes are passed on, one after the other, each with what it is brought
unfoldable pub passed : List ℕ → List ℕ → List ℕ
passed ps [] = ps
passed ps (b ∷ bs) = passed (bit_xor b (brought ps) ∷ ps) bs

-- what is left of the bytes where they are not passed on: each has what it is brought, and brings nothing
unfoldable pub left : List ℕ → List ℕ → List ℕ
left ps [] = []
left ps (b ∷ bs) = bit_xor b (brought ps) ∷ left (0 ∷ ps) bs

-- a row has room for the last 341 bytes that were passed on and 2,048 more; its first n bytes are the last n that were passed on, the
-- newest last
pub record Holds (n : ℕ) (ps row : List ℕ) : Type 0 where
  pub room : length row ≡ 341 + 2048
  pub each : (i j : ℕ) → i + j + 1 ≡ n → get_or row i 0 ≡ get_or ps j 0

-- a row holds the last bytes that were passed on, and then, in another state, the last once the bytes bs are passed on too
unfoldable pub Passes : List ℕ → List ℕ → List ℕ → Type 0
Passes bs before after = (ps : List ℕ) → Holds 341 ps before → Holds 341 (passed ps bs) after

-- the few bytes are as many as a byte reaches, and make of an empty register what all the bytes make of the start value
pub record Few (few all : List ℕ) : Type 0 where
  pub long : length few ≡ 341
  pub same : checksum_from 0 few ≡ checksum_of all
