-- How numbers cross the boundary: the one number that a question returns, and the four bytes that a value is put in an output as.
use Rattle.std.specs.Prelude.{ℕ, ◌+◌, ◌-◌, ◌*◌, ◌/◌, ◌%◌, List, [], ◌∷◌, ◌++◌, map, ℤ, pos, negsuc}

-- how many values a byte, two bytes, three and four have
abbrev pub over_byte : ℕ
over_byte = 0x100

abbrev pub over_two : ℕ
over_two = 0x10000

abbrev pub over_three : ℕ
over_three = 0x1000000

abbrev pub over_word : ℕ
over_word = 0x100000000

-- ---- the returned number

-- the answer's number in the low byte, its file in the next one, and its place in the four above them
unfoldable pub answer_word : ℕ → ℕ → ℕ → ℕ
answer_word number file place = number % over_byte + over_byte * (file % over_byte) + over_two * (place % over_word)

-- the three parts again, as the header's macros take them
abbrev pub number_part : ℕ → ℕ
number_part a = a % over_byte

abbrev pub file_part : ℕ → ℕ
file_part a = a / over_byte % over_byte

abbrev pub place_part : ℕ → ℕ
place_part a = a / over_two % over_word

-- ---- a value

-- how many bytes a value has
abbrev pub value_size : ℕ
value_size = 4

-- a value as a number of four bytes: a negative one in two's complement
unfoldable pub word_of : ℤ → ℕ
word_of (pos n) = n % over_word
word_of (negsuc n) = over_word - 1 - n % over_word

abbrev pub value_words : List ℤ → List ℕ
value_words values = map word_of values

-- a number of eight bytes as two values, its low four bytes first
abbrev pub halves : ℕ → List ℤ
halves n = pos (n % over_word) ∷ pos (n / over_word) ∷ []

-- the four bytes, low byte first
unfoldable pub word_bytes : ℕ → List ℕ
word_bytes w = w % over_byte ∷ w / over_byte % over_byte ∷ w / over_two % over_byte ∷ w / over_three % over_byte ∷ []

-- the bytes of some values, one after the other
unfoldable pub laid_bytes : List ℕ → List ℕ
laid_bytes [] = []
laid_bytes (w ∷ ws) = word_bytes w ++ laid_bytes ws
