-- Numbers in a list of bytes, low byte first (01, 'Bytes and checksum'). Past the end a byte counts as 0, so each definition is total.
use Rattle.std.specs.Prelude.{◌≡◌, cond, List, ℕ, zero, suc, ◌+◌, ◌-◌, ◌*◌, ◌^◌, ◌<◌, get_or, ltb, ℤ, pos, negsuc}
use Rattle.std.specs.Int.Signed.{mag}
use Rattle.octets.specs.declared.Width.{Width}
use Rattle.octets.specs.declared.Width.TheVariants.{One, Two, Three, Four}

-- how many bytes a number has
abbrev pub bytes_of : Width → ℕ
bytes_of One = 1
bytes_of Two = 2
bytes_of Three = 3
bytes_of Four = 4

-- the number that the n bytes from place i on make
-- 01: Bytes.1
unfoldable pub num_at : ℕ → List ℕ → ℕ → ℕ
num_at zero s i = 0
num_at (suc n) s i = get_or s i 0 + 256 * num_at n s (i + 1)

-- n in two's complement, where half is the first number that counts as negative
unfoldable pub signed : ℕ → ℕ → ℤ
signed half n = cond (ltb n half) (pos n) (negsuc (half + half - (n + 1)))

-- the first number of n bytes that counts as negative: of 8 n bits the highest is the sign
abbrev pub half_of : ℕ → ℕ
half_of n = 2 ^ (8 * n - 1)

-- the signed number that the n bytes from place i on make
-- 01: Bytes.3
unfoldable pub signed_at : ℕ → List ℕ → ℕ → ℤ
signed_at n s i = signed (half_of n) (num_at n s i)

-- r is the number of n bytes at i, and so below 256 ^ n
pub record Is (n : ℕ) (s : List ℕ) (i r : ℕ) : Type 0 where
  pub is : r ≡ num_at n s i
  pub below : r < 256 ^ n

-- r is the signed number of n bytes at i; its size (r, or -(r + 1) where it is negative) is below half of 256 ^ n
pub record IsSigned (n : ℕ) (s : List ℕ) (i : ℕ) (r : ℤ) : Type 0 where
  pub is : r ≡ signed_at n s i
  pub small : mag r < half_of n
