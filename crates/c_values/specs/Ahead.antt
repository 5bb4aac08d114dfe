-- What lies ahead as it crosses the boundary (02, ticket 9: 'callable from C with numbers and byte slices only'). The number that is returned has
-- the answer's number, file and place below, as every answer has them, and above these why the list stops and how many objects it has.
use Rattle.std.specs.Prelude.{ℕ, ◌+◌, ◌*◌, ◌/◌, ◌%◌}
use Rattle.verdict.specs.Answers.{answer_number, answer_place}
use Rattle.ahead.specs.Results.{AheadAnswer}
use Rattle.std.specs.Prelude.{Ok, Err}
use Rattle.ahead.specs.Ahead.{stop_number}
use Rattle.ahead.specs.Asked.{ahead_answer, ahead_file}
use Rattle.c_values.specs.Words.{over_byte, answer_word}

-- how many values six bytes have, and seven
abbrev pub over_six : ℕ
over_six = 0x1000000000000

abbrev pub over_seven : ℕ
over_seven = 0x100000000000000

-- the number of the stop, and how many objects are listed; both 0 in a refusal
abbrev pub stop_of : AheadAnswer → ℕ
stop_of (Ok s) = stop_number s.stop
stop_of (Err t) = 0

abbrev pub count_of : AheadAnswer → ℕ
count_of (Ok s) = s.objects
count_of (Err t) = 0

-- the number that is returned: the answer's number, its file and its place in six bytes, the stop in the seventh, and the objects in the last
-- 01: Form.4
unfoldable pub ahead_shown : AheadAnswer → ℕ
ahead_shown a =
    answer_word (answer_number (ahead_answer a)) (ahead_file a) (answer_place (ahead_answer a))
    + over_six * (stop_of a % over_byte) + over_seven * (count_of a % over_byte)

-- the two parts again, as the header's macros take them
-- 02: Ticket9.7
abbrev pub stop_part : ℕ → ℕ
stop_part a = a / over_six % over_byte

-- 02: Ticket9.7
abbrev pub objects_part : ℕ → ℕ
objects_part a = a / over_seven
