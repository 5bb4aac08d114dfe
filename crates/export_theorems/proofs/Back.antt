-- What a caller finds in an output: each value comes back from its four bytes, and each kind of answer takes as many bytes as the header says.
-- `num_at 4` and `signed_at 4` are what the header's yard_unsigned and yard_signed compute.
use Prim.Native.Nat.{ℕ, zero, suc, ◌+◌, ◌-◌, ◌*◌, ◌/◌, ◌%◌, ◌<◌}
use native.Mathlib.Omega.{arith}
use native.Mathlib.Nat.{add_assoc, mod-add-div}
use mathlib.Core.Path.{◌≡◌, refl, ap, ap₂, ◌∙◌}
use mathlib.Core.List.{List, [], ◌∷◌, ◌++◌}
use lib.IntN.{ℤ, pos, negsuc}
use lib.ListN.{length, get_or, length-map}
use lib.Seq.{get_or-append-add}
use lib.Signed.{mag}
use Rattle.octets.specs.Octets.{num_at, signed, half_of}
use Rattle.octets.proofs.Signs.{low, high}
use Rattle.verdict.specs.Answers.{Answer, answer_values}
use Rattle.std.specs.Prelude.{Option, Some, None}
use Rattle.x1_records.specs.Tracks.{height_values}
use Rattle.x1_questions.specs.Results.{HeaderAnswer}
use Rattle.std.specs.Prelude.{Ok, Err}
use Rattle.x1_questions.specs.Results.{TrackAnswer}
use Rattle.x1_questions.specs.Results.{PointAnswer}
use Rattle.x1_questions.specs.Results.{CoordinateAnswer}
use Rattle.x1_questions.specs.Answers.{header_answer, track_answer, point_answer, coordinate_answer}
use Rattle.x1_degrees.specs.Results.{DegreesAnswer}
use Rattle.x2_verdict.specs.Results.{NamedHeaderAnswer}
use Rattle.x2_verdict.specs.Results.{RecordAnswer}
use Rattle.x2_verdict.specs.Answers.{named_header_answer, value_count, fields_of, filled, record_answer}
use Rattle.std.specs.Prelude.{Ok, Err}
use Rattle.route_lister.specs.Answered.{RoutesAnswer, routes_answer}
use Rattle.c_values.specs.Words.{over_byte, over_two, over_three, over_word, value_size, word_of, value_words, word_bytes, laid_bytes}
use Rattle.c_values.specs.Degrees.{degrees_laid}
use Rattle.c_values.specs.Shown.{counts_size}
use Rattle.c_values.proofs.Laid.{bytes_length}

-- ---- four bytes

pub word_small : (z : ℤ) → word_of z < over_word
unfolding word_of
word_small (pos n) = omega arith
word_small (negsuc n) = omega arith

pub four_back : (w : ℕ) (rest : List ℕ) → w < over_word → num_at value_size (word_bytes w ++ rest) 0 ≡ w
unfolding num_at word_bytes
four_back w rest h =
    let p : w / over_byte / over_byte ≡ w / over_two = omega arith in
    let q : w / over_two / over_byte ≡ w / over_three = omega arith in
    let r : w / over_three % over_byte ≡ w / over_three = omega arith in
    omega (arith, p, q, r, mod-add-div w over_byte, mod-add-div (w / over_byte) over_byte, mod-add-div (w / over_two) over_byte)

-- a number after some bytes
after : (k : ℕ) (front rest : List ℕ) (i : ℕ) → num_at k (front ++ rest) (length front + i) ≡ num_at k rest i
unfolding num_at
after zero front rest i = refl
after (suc k) front rest i =
    ap₂ (λ (a b : ℕ). a + 256 * b) (get_or-append-add front rest i 0)
    (ap (num_at k (front ++ rest)) (add_assoc (length front) i 1) ∙ after k front rest (i + 1))

-- ---- the values

pub value_at : (values : List ℤ) (rest : List ℕ) (i : ℕ) → i < length values → num_at value_size (laid_bytes (value_words values) ++ rest) (value_size * i) ≡ word_of (get_or values i (pos 0))
unfolding laid_bytes word_bytes
value_at [] rest i h = absurd (omega arith)
value_at (z ∷ zs) rest zero h = four_back (word_of z) (laid_bytes (value_words zs) ++ rest) (word_small z)
value_at (z ∷ zs) rest (suc j) h =
    let k : value_size * suc j ≡ value_size + value_size * j = omega arith in
    rw k (after value_size (word_bytes (word_of z)) (laid_bytes (value_words zs) ++ rest) (value_size * j) ∙ value_at zs rest j (omega arith))

-- a number that fits in four bytes, and a signed one
pub number_word : (n : ℕ) → n < over_word → word_of (pos n) ≡ n
unfolding word_of
number_word n h = omega arith

pub signed_word : (z : ℤ) → mag z < half_of value_size → signed (half_of value_size) (word_of z) ≡ z
unfolding word_of
signed_word (pos n) h = let e : n % over_word ≡ n = omega arith in rw e (low (half_of value_size) n h)
signed_word (negsuc n) h =
    let e : over_word - 1 - n % over_word ≡ over_word - 1 - n = omega arith in
    let k : half_of value_size + half_of value_size - 1 - (over_word - 1 - n) ≡ n = omega arith in
    rw e (high (half_of value_size) (over_word - 1 - n) (omega arith) ∙ ap negsuc k)

-- ---- how many bytes each kind of answer takes: as many values as the header says, of four bytes each, refused or not

answer_size : (a : Answer) (n : ℕ) → length (answer_values a) ≡ n → length (laid_bytes (value_words (answer_values a))) ≡ value_size * n
answer_size a n e =
    let b = bytes_length (value_words (answer_values a)) in
    let m = length-map (answer_values a) word_of in
    omega arith

pub header1_size : (a : HeaderAnswer) → length (laid_bytes (value_words (answer_values (header_answer a)))) ≡ 12
header1_size a = answer_size (header_answer a) 3 (count a)
  where
    count : (a : HeaderAnswer) → length (answer_values (header_answer a)) ≡ 3
    count (Ok h) = refl
    count (Err t) = refl

pub header2_size : (a : NamedHeaderAnswer) → length (laid_bytes (value_words (answer_values (named_header_answer a)))) ≡ 20
header2_size a = answer_size (named_header_answer a) 5 (count a)
  where
    count : (a : NamedHeaderAnswer) → length (answer_values (named_header_answer a)) ≡ 5
    count (Ok h) = refl
    count (Err t) = refl

pub track_size : (a : TrackAnswer) → length (laid_bytes (value_words (answer_values (track_answer a)))) ≡ 44
track_size a = answer_size (track_answer a) 11 (count a)
  where
    count : (a : TrackAnswer) → length (answer_values (track_answer a)) ≡ 11
    count (Ok t) = refl
    count (Err t) = refl

pub point_size : (a : PointAnswer) → length (laid_bytes (value_words (answer_values (point_answer a)))) ≡ 28
point_size a = answer_size (point_answer a) 7 (count a)
  where
    height_count : (h : Option ℤ) → length (height_values h) ≡ 2
    height_count (Some z) = refl
    height_count None = refl

    count : (a : PointAnswer) → length (answer_values (point_answer a)) ≡ 7
    count (Ok p) = let h = height_count p.height in omega arith
    count (Err t) = refl

pub coordinate_size : (a : CoordinateAnswer) → length (laid_bytes (value_words (answer_values (coordinate_answer a)))) ≡ 8
coordinate_size a = answer_size (coordinate_answer a) 2 (count a)
  where
    count : (a : CoordinateAnswer) → length (answer_values (coordinate_answer a)) ≡ 2
    count (Ok c) = refl
    count (Err t) = refl

pub degrees_size : (a : DegreesAnswer) → length (laid_bytes (value_words (answer_values (degrees_laid a)))) ≡ 24
degrees_size a = answer_size (degrees_laid a) 6 (count a)
  where
    count : (a : DegreesAnswer) → length (answer_values (degrees_laid a)) ≡ 6
    count (Ok s) = refl
    count (Err t) = refl

filled_length : (n : ℕ) (l : List ℕ) → length (filled n l) ≡ n
filled_length zero l = refl
filled_length (suc n) [] = ap suc (filled_length n [])
filled_length (suc n) (x ∷ l) = ap suc (filled_length n l)

pub record_size : (a : RecordAnswer) → length (laid_bytes (value_words (answer_values (record_answer a)))) ≡ 48
record_size a = answer_size (record_answer a) value_count (count a)
  where
    count : (a : RecordAnswer) → length (answer_values (record_answer a)) ≡ value_count
    count (Ok r) = filled_length value_count (fields_of r)
    count (Err t) = refl

pub routes_size : (a : RoutesAnswer) → length (laid_bytes (value_words (answer_values (routes_answer a)))) ≡ counts_size
routes_size a = answer_size (routes_answer a) 3 (count a)
  where
    count : (a : RoutesAnswer) → length (answer_values (routes_answer a)) ≡ 3
    count (Ok t) = refl
    count (Err t) = refl
