-- A line of the engineer's plan, by its bytes (docs/PLAN.md): its words before the comment, and what they say.
use Rattle.std.specs.Prelude.{ℕ, zero, suc, Bool, true, cond, not, ◌&&◌, ◌||◌, List, [], ◌∷◌, ◌++◌, Option, None, Some, Result, Ok, Err, length, drop, eqb, leb, ltb}
use Rattle.std.specs.Str.{bytes_eq}
use Rattle.decimal.specs.Decimal.{is_number, number_in}
use Rattle.plan_lines.specs.declared.Line.{Line}
use Rattle.plan_lines.specs.declared.Line.TheVariants as line
use Rattle.plan_lines.specs.declared.Slip.{Slip}
use Rattle.plan_lines.specs.declared.Slip.TheVariants as slip

-- ---- words

-- space, tab and carriage return part words
abbrev pub is_blank : ℕ → Bool
is_blank c = eqb c 0x20 || (eqb c 0x09 || eqb c 0x0D)

-- the bytes that a text begins with and for which a test holds
unfoldable pub front : (ℕ → Bool) → List ℕ → List ℕ
front t [] = []
front t (c ∷ s) = cond (t c) (c ∷ front t s) []

-- what stands before a mark
abbrev pub is_not : ℕ → ℕ → Bool
is_not mark c = not (eqb c mark)

abbrev pub before : ℕ → List ℕ → List ℕ
before mark s = front (is_not mark) s

-- what a line says stands before the comment, which '#' starts
abbrev pub is_said : ℕ → Bool
is_said c = is_not 0x23 c

abbrev pub said : List ℕ → List ℕ
said s = before 0x23 s

-- the blanks that a text begins with
abbrev pub blanks : List ℕ → List ℕ
blanks s = front is_blank s

-- the word that a text begins with; none where it begins with a blank
abbrev pub is_part : ℕ → Bool
is_part c = not (is_blank c)

abbrev pub word : List ℕ → List ℕ
word s = front is_part s

-- the words of a text, of which the first n bytes are passed over
unfoldable pub words_after : ℕ → List ℕ → List (List ℕ)
words_after n [] = []
words_after (suc n) (c ∷ s) = words_after n s
words_after zero (c ∷ s) = cond (is_blank c) (words_after zero s) ((c ∷ word s) ∷ words_after (length (word s)) s)

abbrev pub words_in : List ℕ → List (List ℕ)
words_in s = words_after zero s

-- ---- offsets

-- a word is an offset: a number from 0 to 65,535
abbrev pub offset_most : ℕ
offset_most = 65535

abbrev pub is_offset : List ℕ → Bool
is_offset w = is_number w offset_most

unfoldable pub all_offsets : List (List ℕ) → Bool
all_offsets [] = true
all_offsets (w ∷ ws) = is_offset w && all_offsets ws

unfoldable pub offsets_of : List (List ℕ) → List ℕ
offsets_of [] = []
offsets_of (w ∷ ws) = number_in w offset_most ∷ offsets_of ws

-- the offset that a word is
abbrev pub offset_of : List ℕ → Option ℕ
offset_of w = cond (is_offset w) (Some (number_in w offset_most)) None

-- how many offsets the words are, where all of them are offsets
abbrev pub count_of : List (List ℕ) → Option ℕ
count_of ws = cond (all_offsets ws) (Some (length ws)) None

-- ---- what a line says

-- a route has 2 to 512 offsets
abbrev pub route_least : ℕ
route_least = 2

abbrev pub route_most : ℕ
route_most = 512

-- the word 'from'
unfoldable pub is_from : List ℕ → Bool
is_from w = bytes_eq w (0x66 ∷ 0x72 ∷ 0x6F ∷ 0x6D ∷ [])

-- what the words after 'from' say
unfoldable pub from_by : List (List ℕ) → Result Line Slip
from_by [] = Err slip.From
from_by (w ∷ []) = cond (is_offset w) (Ok (line.From (number_in w offset_most))) (Err slip.From)
from_by (w ∷ x ∷ ws) = Err slip.From

-- what n offsets say
unfoldable pub route_of : ℕ → Result Line Slip
route_of n = cond (eqb n 0) (Ok line.Empty) (cond (ltb n route_least) (Err slip.Few) (cond (ltb route_most n) (Err slip.Many) (Ok (line.Route n))))

-- what words say of which the first is not 'from'
unfoldable pub route_by : List (List ℕ) → Result Line Slip
route_by ws = cond (all_offsets ws) (route_of (length ws)) (Err slip.Word)

-- 02: Ticket8.4
unfoldable pub line_by : List (List ℕ) → Result Line Slip
line_by [] = Ok line.Empty
line_by (w ∷ ws) = cond (is_from w) (from_by ws) (route_by (w ∷ ws))

-- what a line says
abbrev pub line_of : List ℕ → Result Line Slip
line_of s = line_by (words_in (said s))

-- the offsets in a line that is a route
abbrev pub offsets_in : List ℕ → List ℕ
offsets_in s = offsets_of (words_in (said s))

-- ---- the offsets lent

-- a route for which there is room is put in front
unfoldable pub leaves : Result Line Slip → List ℕ → List ℕ → List ℕ
leaves (Ok (line.Route n)) offsets out = cond (leb n (length out)) (offsets ++ drop n out) out
leaves (Ok line.Empty) offsets out = out
leaves (Ok (line.From n)) offsets out = out
leaves (Err s) offsets out = out

abbrev pub left_by : List ℕ → List ℕ → List ℕ
left_by s out = leaves (line_of s) (offsets_in s) out
