-- The number that is returned for what lies ahead has its five parts in it, each of which comes back where it fits its bytes; the whole fits eight.
use Prim.Native.Nat.{ℕ, ◌+◌, ◌*◌, ◌%◌, ◌<◌}
use native.Mathlib.Omega.{arith}
use mathlib.Core.Path.{◌≡◌}
use Rattle.verdict.specs.Answers.{answer_number, answer_place}
use Rattle.ahead.specs.Results.{AheadAnswer}
use Rattle.ahead.specs.Asked.{ahead_answer, ahead_file}
use Rattle.c_values.specs.Words.{over_byte, over_word, answer_word, number_part, file_part, place_part}
use Rattle.c_values.specs.Ahead.{over_six, over_seven, stop_of, count_of, ahead_shown, stop_part, objects_part}

-- ---- the sum

-- number, file and place take six bytes
pub six_bytes : (low number file place : ℕ) → low ≡ answer_word number file place → low < over_six
unfolding answer_word
six_bytes low number file place e = omega arith

-- as the code adds it up
pub shown_sum :
    (a : AheadAnswer) (low number file place stop objects : ℕ) → low ≡ answer_word number file place → number ≡ answer_number (ahead_answer a)
    → file ≡ ahead_file a → place ≡ answer_place (ahead_answer a) → stop ≡ stop_of a → objects ≡ count_of a
    → low + (over_six * (stop % over_byte) + over_seven * (objects % over_byte)) ≡ ahead_shown a
unfolding ahead_shown
shown_sum a low number file place stop objects l n f p s o = rw (l, n, f, p, s, o) (omega arith)

-- ---- the parts come back

module _
    (a : AheadAnswer) (n : answer_number (ahead_answer a) < over_byte) (f : ahead_file a < over_byte) (p : answer_place (ahead_answer a) < over_word)
    (s : stop_of a < over_byte) (o : count_of a < over_byte) where
  whole :
      ahead_shown a
      ≡ answer_number (ahead_answer a) + 256 * ahead_file a + 65536 * answer_place (ahead_answer a) + over_six * stop_of a + over_seven * count_of a
  unfolding ahead_shown answer_word
  whole = omega arith

  pub number_back : number_part (ahead_shown a) ≡ answer_number (ahead_answer a)
  number_back = rw whole (omega arith)

  pub file_back : file_part (ahead_shown a) ≡ ahead_file a
  file_back = rw whole (omega arith)

  pub place-back : place_part (ahead_shown a) ≡ answer_place (ahead_answer a)
  place-back = rw whole (omega arith)

  pub stop_back : stop_part (ahead_shown a) ≡ stop_of a
  stop_back = rw whole (omega arith)

  pub objects_back : objects_part (ahead_shown a) ≡ count_of a
  objects_back = rw whole (omega arith)
