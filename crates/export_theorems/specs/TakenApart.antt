-- What a caller takes from the number that is returned: the paper's number of the answer, its file and its place.
use Rattle.std.specs.Prelude.{ℕ, ◌≡◌, cond, List}
use Rattle.verdict.specs.declared.Reason.TheVariants.{Room}
use Rattle.verdict.specs.Reasons.{number_of}
use Rattle.verdict.specs.Answers.{Answer, answered, refused, answer_place}
use Rattle.c_values.specs.Words.{number_part, file_part, place_part, value_words}
use Rattle.c_values.specs.Shown.{short, shown}

-- r has these three parts in it, as the header's macros take them
-- 01: Ask.4
pub record TakenApart (r number file place : ℕ) : Type 0 where
  pub number_is : number_part r ≡ number
  pub file_is : file_part r ≡ file
  pub place_is : place_part r ≡ place

-- ---- the questions, which say no file

-- the number of a question's answer: its own, and 15 where an answer with values meets an output that is too short for them
abbrev pub number_shown : Answer → List ℕ → ℕ
number_shown (answered values) out = cond (short (value_words values) out) (number_of Room) 0
number_shown (refused n t) out = number_of t.reason

-- what is returned of an answer has its number, no file, and its place
abbrev pub AnswerParts : Answer → List ℕ → Type 0
AnswerParts a out = TakenApart (shown a out) (number_shown a out) 0 (answer_place a)
