-- Numbers in decimal digits, as a text has them.
use Rattle.std.specs.Prelude.{ℕ, suc, ◌+◌, ◌*◌, ◌-◌, Bool, true, cond, ◌&&◌, List, [], ◌∷◌, length, leb, ltb}

-- a byte is one of the digits 0 to 9
abbrev pub is_digit : ℕ → Bool
is_digit c = leb 0x30 c && leb c 0x39

unfoldable pub all_digits : List ℕ → Bool
all_digits [] = true
all_digits (c ∷ s) = is_digit c && all_digits s

-- the number that the digits of n and then those of a text are
unfoldable pub value_after : ℕ → List ℕ → ℕ
value_after n [] = n
value_after n (c ∷ s) = value_after (10 * n + (c - 0x30)) s

-- a text is a number of at most `most`: it has digits alone, one at least
unfoldable pub is_number : List ℕ → ℕ → Bool
is_number s most = ltb 0 (length s) && (all_digits s && leb (value_after 0 s) most)

-- this number; one more than the most where the text is none
unfoldable pub number_in : List ℕ → ℕ → ℕ
number_in s most = cond (is_number s most) (value_after 0 s) (suc most)
