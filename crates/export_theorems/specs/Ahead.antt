-- What a caller takes from the number that yard_ahead returns (02, ticket 9): the answer's number, its file and its place, why the list stops, and
-- how many objects it has. What stands in the bytes lent is said of the question itself (crate ahead_theorems).
use Rattle.std.specs.Prelude.{ℕ, ◌≤◌, ◌≡◌}
use Rattle.verdict.specs.Answers.{answer_number, answer_place}
use Rattle.ahead.specs.Results.{AheadAnswer}
use Rattle.ahead.specs.Ahead.{objects_most}
use Rattle.ahead.specs.Asked.{ahead_answer, ahead_file}
use Rattle.c_values.specs.Words.{number_part, file_part, place_part}
use Rattle.c_values.specs.Ahead.{stop_of, count_of, stop_part, objects_part}

-- r has the five parts of an answer in it, as the header's macros take them
-- 02: Ticket9.7
pub record AheadBack (a : AheadAnswer) (r : ℕ) : Type 0 where
  -- the answer's number, its file and its place
  pub number_is : number_part r ≡ answer_number (ahead_answer a)
  pub file_is : file_part r ≡ ahead_file a
  pub place_is : place_part r ≡ answer_place (ahead_answer a)
  -- why the list stops, and how many objects it has, at most 64; both 0 in a refusal
  pub stop_is : stop_part r ≡ stop_of a
  pub objects_are : objects_part r ≡ count_of a
  pub objects_few : objects_part r ≤ objects_most
