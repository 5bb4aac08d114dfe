-- The rule of document 01 alone, as it was before ticket 10 of document 02: no byte of a name is 0x20. It is said here so that names of that
-- time are known to be right (proofs/Names, `base_name`).
use Rattle.std.specs.Prelude.{ℕ, ◌≤◌, ◌<◌, ◌≡◌, List}
use Rattle.names.specs.Names.{byte_after}

-- the 8 bytes at p are `count` bytes 0x21 to 0x7E, then only 0x00
pub record BaseName (f : List ℕ) (p count : ℕ) : Type 0 where
  pub room : count ≤ 8
  pub bytes : (k : ℕ) → k < count → (0x21 ≤ byte_after f p k) × (byte_after f p k ≤ 0x7E)
  pub rest : (k : ℕ) → count ≤ k → k < 8 → byte_after f p k ≡ 0
