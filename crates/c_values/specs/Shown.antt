-- What a question with an output returns and leaves, of any answer (crate verdict). An answer's values stand at the start of the output,
-- and the bytes after them are left as they were. An output that is too short is refused with 15 at place 0, after every other refusal. A
-- refusal leaves every byte.
use Rattle.std.specs.Prelude.{ℕ, ◌*◌, Bool, cond, List, ◌++◌, ltb, length, drop}
use Rattle.verdict.specs.declared.Reason.TheVariants.{Room}
use Rattle.verdict.specs.Verdicts.{Verdict}
use Rattle.verdict.specs.Verdicts.{PairVerdict}
use Rattle.verdict.specs.Reasons.{number_of, number_in, place_in, pair_number_in, pair_place_in, pair_file_in}
use Rattle.verdict.specs.Answers.{Answer, answered, refused}
use Rattle.c_values.specs.Words.{answer_word, value_size, value_words, laid_bytes}

-- ---- the verdicts

abbrev pub verdict_shown : Verdict → ℕ
verdict_shown v = answer_word (number_in v) 0 (place_in v)

abbrev pub pair_shown : PairVerdict → ℕ
pair_shown v = answer_word (pair_number_in v) (pair_file_in v) (pair_place_in v)

-- ---- values, as numbers of four bytes

-- the output has fewer bytes than the values take
abbrev pub short : List ℕ → List ℕ → Bool
short words out = ltb (length out) (value_size * length words)

-- the number that is returned
unfoldable pub words_shown : List ℕ → List ℕ → ℕ
words_shown words out = cond (short words out) (answer_word (number_of Room) 0 0) (answer_word 0 0 0)

-- the output after it
unfoldable pub words_leave : List ℕ → List ℕ → List ℕ
words_leave words out = cond (short words out) out (laid_bytes words ++ drop (length (laid_bytes words)) out)

-- ---- every question

-- the number that is returned
abbrev pub shown : Answer → List ℕ → ℕ
shown (answered values) out = words_shown (value_words values) out
shown (refused n t) out = answer_word (number_of t.reason) 0 t.place

-- the output after it
-- 01: Ask.6
abbrev pub leaves : Answer → List ℕ → List ℕ
leaves (answered values) out = words_leave (value_words values) out
leaves (refused n t) out = out

-- ---- routes: the counts stand in an output of their own

-- how many bytes the counts take
abbrev pub counts_size : ℕ
counts_size = 12

-- the words lent, where the list leaves `listed`: where the counts have no room they are left as they were
-- 01: Ask.6
unfoldable pub words_left : List ℕ → List ℕ → List ℕ → List ℕ
words_left counts words listed = cond (ltb (length counts) counts_size) words listed
