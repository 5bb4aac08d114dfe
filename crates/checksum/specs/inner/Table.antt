-- The rule of the tables by which the code takes a byte or four bytes in one step, and sixteen in one turn; no reader of the checksum need
-- know it. `empty_steps` counts down how many empty bytes are still to enter.
use Rattle.std.specs.Prelude.{◌≡◌, List, ℕ, zero, suc, ◌+◌, ◌*◌, ◌^◌, ◌<◌, get_or}
use Rattle.checksum.specs.Checksum.{byte_step}

-- four bytes as one number, the first byte highest
abbrev pub word_of : ℕ → ℕ → ℕ → ℕ → ℕ
word_of a b c d = a * 2 ^ 24 + b * 2 ^ 16 + c * 2 ^ 8 + d

-- n empty bytes enter
unfoldable pub empty_steps : ℕ → ℕ → ℕ
empty_steps zero r = r
empty_steps (suc n) r = empty_steps n (byte_step r 0)

-- the table has four rows of 256 entries, one for each byte; in the row k the entry of a byte is what the byte makes of an empty register
-- once n + k empty bytes have followed
unfoldable pub RightTable : ℕ → List ℕ → Type 0
RightTable n table = (k b : ℕ) → k < 4 → b < 256 → get_or table (256 * k + b) 0 ≡ empty_steps (n + k) (byte_step 0 b)

-- the two tables: with no empty byte in the first row, and with twelve, in the place of the last twelve bytes of a turn
pub record RightTables (near far : List ℕ) : Type 0 where
  pub nearby : RightTable 0 near
  pub distant : RightTable 12 far
