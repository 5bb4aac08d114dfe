-- The bytes lent for a list of 16-bit words (01, 'Routes'): each word stands in two bytes, low byte first, for all numbers are
-- little-endian. A word that finds no room is not stored, so each definition is total.
use Rattle.std.specs.Prelude.{ℕ, suc, ◌+◌, ◌*◌, ◌/◌, ◌%◌, cond, List, [], ◌∷◌, length, set, ltb}

-- how many bytes a word has
abbrev pub word_size : ℕ
word_size = 2

-- how many words find room in the bytes lent: an odd last byte has room for none
abbrev pub room_of : List ℕ → ℕ
room_of out = length out / word_size

-- the bytes of some words
-- 01: List.6
unfoldable pub octets_of : List ℕ → List ℕ
octets_of [] = []
octets_of (w ∷ ws) = w % 256 ∷ w / 256 ∷ octets_of ws

-- the word w stored as the k-th, where there is room for it
unfoldable pub lay : List ℕ → ℕ → ℕ → List ℕ
lay out k w = cond (ltb k (room_of out)) (set (set out (word_size * k) (w % 256)) (word_size * k + 1) (w / 256)) out

-- the words ws stored one after the other, from the k-th on
unfoldable pub lays : List ℕ → ℕ → List ℕ → List ℕ
lays out k [] = out
lays out k (w ∷ ws) = lays (lay out k w) (suc k) ws
