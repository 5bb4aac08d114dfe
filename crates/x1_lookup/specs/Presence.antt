-- The track numbers that are present in an X.1 as four words of 64 bits; a track's entry is found by the count of present numbers below its
-- own (02, ticket 7).
use Rattle.std.specs.Prelude.{ℕ, zero, suc, ◌/◌, ◌%◌, ◌^◌, ◌<◌, ◌≡◌, Bool, true, cond, ◌↔◌, List, [], ◌∷◌, eqb}
use Rattle.std.specs.Int.Bits.{bit_or}
use Rattle.x1_layout.specs.Layout.{entries}
use Rattle.x1_obeys.specs.Obeys.{entry_place}
use Rattle.x1_lookup.specs.Lookup.{number_at, TrackNumbered}
use Rattle.std.specs.Prelude.{Option, Some, None}
use Rattle.x1_lookup.specs.declared.presence.Presence.{Presence}

-- ---- the words

-- no number is present
abbrev pub nowhere : Presence
nowhere = record { first = 0; second = 0; third = 0; fourth = 0 }

-- the words from the first on, 64 numbers in each: the word j has the numbers from 64 j to 64 j + 63; there is none after the fourth
-- 01: Form.3
abbrev pub word_at : Presence → ℕ → ℕ
word_at w j = cond (eqb j 0) w.first (cond (eqb j 1) w.second (cond (eqb j 2) w.third (cond (eqb j 3) w.fourth 0)))

-- bit k of a word, from the lowest
abbrev pub bit_of : ℕ → ℕ → ℕ
bit_of word k = word / 2 ^ k % 2

-- a number is present: its bit is set
-- 02: Ticket7.2
unfoldable pub has : Presence → ℕ → Bool
has w n = eqb (bit_of (word_at w (n / 64)) (n % 64)) 1

-- the word j, with the bit of a number where it is the number's word
abbrev pub marked : ℕ → ℕ → ℕ → ℕ
marked j n word = cond (eqb (n / 64) j) (bit_or word (2 ^ (n % 64))) word

-- the words with one number more
abbrev pub with : Presence → ℕ → Presence
with w n = record { first = marked 0 n w.first; second = marked 1 n w.second; third = marked 2 n w.third; fourth = marked 3 n w.fourth }

-- ---- of a file

-- with the numbers of these entries
unfoldable pub with_all : List ℕ → Presence → List ℕ → Presence
with_all f w [] = w
with_all f w (e ∷ es) = with_all f (with w (number_at f e)) es

-- the numbers of a file's entries
-- 02: Ticket7.2
unfoldable pub presence_of : List ℕ → Presence
presence_of f = with_all f nowhere (entries f)

-- ---- an entry by the words

-- how many numbers below n are present
-- 01: Form.3
-- 02: Ticket7.3
unfoldable pub below : Presence → ℕ → ℕ
below w zero = 0
below w (suc n) = cond (has w n) (suc (below w n)) (below w n)

-- the entry of the track with a number, where the number is present: that with so many entries before it
-- 01: Form.3
-- 02: Ticket7.3, Ticket7.4
unfoldable pub entry_by : Presence → ℕ → Option ℕ
entry_by w n = cond (has w n) (Some (entry_place (below w n))) None

-- ---- what the words mean

-- bit n is set exactly where a track of the file has the number n, for the numbers 0 to 255; there is no other bit
-- 02: Ticket7.2
abbrev pub Means : List ℕ → Presence → Type 0
Means f w = (n : ℕ) → (has w n ≡ true) ↔ ((n < 256) × TrackNumbered f n)
