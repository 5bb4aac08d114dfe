-- The lies of turnouts (02, ticket 9: 'for each turnout number a lie (byte 0 normal, 1 reverse, 2 unknown)').
use Rattle.std.specs.Prelude.{ℕ, Bool, true, ◌&&◌, List, [], ◌∷◌, length, get_or, eqb, leb}

-- the three lies
-- 02: Ticket9.2
abbrev pub normal : ℕ
normal = 0

-- 02: Ticket9.2
abbrev pub reverse : ℕ
reverse = 1

-- 02: Ticket9.2
abbrev pub unknown : ℕ
unknown = 2

-- how many lies there are, one for each turnout number; that of 0 belongs to no turnout
abbrev pub lie_count : ℕ
lie_count = 256

-- the lie of the turnouts of a number: equal numbers share one
-- 02: Ticket9.8
unfoldable pub lie_of : List ℕ → ℕ → ℕ
lie_of lies number = get_or lies number unknown

-- every byte is one of the three
unfoldable pub all_lies : List ℕ → Bool
all_lies [] = true
all_lies (b ∷ bs) = leb b unknown && all_lies bs

-- lies that may be asked with
-- 02: Ticket9.9
unfoldable pub are_lies : List ℕ → Bool
are_lies lies = eqb (length lies) lie_count && all_lies lies
