-- A name by itself, as a list of bytes, and the field that holds it: what is due to whoever writes a name or shows one. proofs/Written has
-- the laws that join the two ways: a field that holds a right name is one by the rule, and a field that is a name holds just one.
use Rattle.std.specs.Prelude.{ℕ, ◌-◌, ◌≤◌, ◌<◌, ◌≡◌, List, [], ◌∷◌, ◌++◌, length, get_or, take, replicate}
use Rattle.names.specs.Names.{byte_after, object_bytes, name_length}

-- so many bytes are a right name: at most 8 of them, each 0x20 to 0x7E, the first and the last not 0x20; there may be none
-- 02: Ticket10.3
pub record RightName (name : List ℕ) : Type 0 where
  pub room : length name ≤ 8
  pub bytes : (k : ℕ) → k < length name → (0x20 ≤ get_or name k 0) × (get_or name k 0 ≤ 0x7E)
  pub first : 0 < length name → get_or name 0 0 ≡ 0x20 → ⊥
  pub last : 0 < length name → get_or name (length name - 1) 0 ≡ 0x20 → ⊥

-- the 8 bytes that are written for it: its own, then 0x00
unfoldable pub written : List ℕ → List ℕ
written name = name ++ replicate (object_bytes - length name) 0

-- the 8 bytes that stand at p
unfoldable pub field_at : List ℕ → ℕ → List ℕ
field_at f p =
    byte_after f p 0
    ∷ byte_after f p 1
    ∷ byte_after f p 2
    ∷ byte_after f p 3
    ∷ byte_after f p 4
    ∷ byte_after f p 5
    ∷ byte_after f p 6
    ∷ byte_after f p 7
    ∷ []

-- the field at p holds just this name
-- 02: Ticket10.7
abbrev pub HoldsName : List ℕ → ℕ → List ℕ → Type 0
HoldsName f p name = field_at f p ≡ written name

-- the name that is read from the field at p
unfoldable pub read_name : List ℕ → ℕ → List ℕ
read_name f p = take (name_length f p) (field_at f p)
