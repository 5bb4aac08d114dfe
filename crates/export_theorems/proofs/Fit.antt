-- THEOREM: where a question is answered, each of its values comes back from the output by the header's yard_unsigned or yard_signed, since each
-- fits its four bytes.
use Prim.Native.Nat.{ℕ, zero, suc, ◌*◌, ◌<◌}
use native.Mathlib.Omega.{arith}
use mathlib.Core.Path.{◌≡◌, refl, sym, ap, ◌∙◌}
use mathlib.Core.Bool.{Bool, true, false, cond}
use mathlib.Core.List.{List, [], ◌∷◌, ◌++◌, map}
use lib.IntN.{ℤ, pos, negsuc}
use lib.ListN.{length, get_or, drop}
use Rattle.octets.specs.Octets as octets
use Rattle.octets.specs.Octets.{num_at, signed_at, half_of}
use Rattle.verdict.specs.declared.Reason.TheVariants.{Room}
use Rattle.verdict.specs.Reasons.{number_of}
use Rattle.verdict.specs.Answers.{Answer, answered, refused}
use Rattle.tables.specs.Table.{Sign, unsigned, signed, Row}
use Rattle.x1_records.specs.Rows.{entry_table, point_table, height}
use Rattle.x1_questions.specs.Answers.{header_answer, track_answer, point_answer, coordinate_answer}
use Rattle.x1_questions.specs.Questions.{header_of, track_of, point_of, coordinate_asked}
use Rattle.x1_degrees.specs.Questions.{degrees_asked, point_degrees_of}
use Rattle.x2_verdict.specs.Answers.{named_header_answer, record_answer}
use Rattle.x2_verdict.specs.Questions.{named_header_of, record_of}
use Rattle.route_lister.specs.Answered.{routes_answer}
use Rattle.route_question.specs.Routes.{routes_asked}
use Rattle.c_values.specs.Words.{value_size, word_of, value_words, laid_bytes, number_part}
use Rattle.c_values.specs.Degrees.{degrees_laid}
use Rattle.c_values.specs.Shown.{short, words_leave, shown}
use Rattle.export_theorems.specs.TakenApart.{number_shown}
use Rattle.export_theorems.specs.Fit.{header1_signed, header2_signed, track_signed, point_signed, coordinate_signed, degrees_signed, record_signed, routes_signed, Fits, Back, AllFit, AnswerFits, AnswerBack}
use Rattle.verdict.proofs.Questions.{number_above}
use Rattle.export_theorems.proofs.Back.{value_at, number_word, signed_word}
use Rattle.export_theorems.proofs.Fitting.{header1_fits, header2_fits, track_fits, point_fits, coordinate_fits, degrees_fits, point_degrees_fits, record_fits, routes_fits}
use Rattle.export_theorems.proofs.TakenApart.{header1_parts, header2_parts, track_parts, point_parts, coordinate_parts, degrees_parts, point_degrees_parts, record_parts, routes_parts}

-- ---- a value that fits comes back

value_back : (s : Bool) (z : ℤ) (out : List ℕ) (p : ℕ) → Fits s z → num_at value_size out p ≡ word_of z → Back s out p z
unfolding signed_at
value_back true z out p h e = ap (octets.signed (half_of value_size)) e ∙ signed_word z h
value_back false (pos n) out p h e = ap pos (e ∙ number_word n h)
value_back false (negsuc n) out p h e = absurd h

-- the value of an index is there, and fits
fit_at : (ss : List Bool) (zs : List ℤ) → AllFit ss zs → (i : ℕ) → i < length ss → (i < length zs) × Fits (get_or ss i false) (get_or zs i (pos 0))
fit_at [] zs h i l = absurd (omega arith)
fit_at (s ∷ ss) [] h i l = absurd h
fit_at (s ∷ ss) (z ∷ zs) h zero l = (omega arith, h.0)
fit_at (s ∷ ss) (z ∷ zs) h (suc i) l = let r = fit_at ss zs h.1 i (omega arith) in (omega (arith, r.0), r.1)

-- an output with room for the values
laid_back : (signs : List Bool) (values : List ℤ) (out : List ℕ) → AllFit signs values → (t : Bool) → short (value_words values) out ≡ t → cond t (number_of Room) 0 ≡ 0
    → (i : ℕ) → i < length signs → Back (get_or signs i false) (words_leave (value_words values) out) (value_size * i) (get_or values i (pos 0))
unfolding words_leave
laid_back signs values out fit true s e i l = absurd (omega arith)
laid_back signs values out fit false s e i l =
    let h = fit_at signs values fit i l in
    rw s (value_back (get_or signs i false) (get_or values i (pos 0)) _ (value_size * i) h.1 (value_at values (drop (length (laid_bytes (value_words values))) out) i h.0))

answer_back : (signs : List Bool) (a : Answer) (out : List ℕ) → number_part (shown a out) ≡ number_shown a out → AnswerFits signs a → AnswerBack signs a out
answer_back signs (answered values) out n fit e = laid_back signs values out fit (short (value_words values) out) refl (sym n ∙ e)
answer_back signs (refused count t) out n fit e = let h = number_above t.reason in let z = sym n ∙ e in absurd (omega arith)

-- ---- the header reads by yard_signed just the fields that tables 2 and 3 have signed; how many points a track has stands after them

unfoldable is_signed : Sign → Bool
is_signed signed = true
is_signed unsigned = false

unfoldable signs_of : List Row → List Bool
signs_of table = map (λ (r : Row). is_signed r.sign) table

track_signs : signs_of entry_table ++ (false ∷ []) ≡ track_signed
unfolding signs_of is_signed
track_signs = refl

-- whether a point has a height stands before it
point_signs : signs_of point_table ++ (false ∷ signs_of (height ∷ [])) ≡ point_signed
unfolding signs_of is_signed
point_signs = refl

-- ---- THEOREM: where a question is answered, each of its values comes back from the output

module _ (out f : List ℕ) where
  pub header1_back : AnswerBack header1_signed (header_answer (header_of f)) out
  header1_back = answer_back header1_signed (header_answer (header_of f)) out (header1_parts out f).number_is (header1_fits f)

  pub header2_back : AnswerBack header2_signed (named_header_answer (named_header_of f)) out
  header2_back = answer_back header2_signed (named_header_answer (named_header_of f)) out (header2_parts out f).number_is (header2_fits f)

  pub track_back : (i : ℕ) → AnswerBack track_signed (track_answer (track_of f i)) out
  track_back i = answer_back track_signed (track_answer (track_of f i)) out (track_parts out f i).number_is (track_fits f i)

  -- the file's bytes are below 256, as those of every slice are
  pub point_back : ((k : ℕ) → get_or f k 0 < 256) → (i j : ℕ) → AnswerBack point_signed (point_answer (point_of f i j)) out
  point_back bytes i j = answer_back point_signed (point_answer (point_of f i j)) out (point_parts out f i j).number_is (point_fits f bytes i j)

  pub coordinate_back : (number x : ℕ) → AnswerBack coordinate_signed (coordinate_answer (coordinate_asked f number x)) out
  coordinate_back number x =
      answer_back coordinate_signed (coordinate_answer (coordinate_asked f number x)) out (coordinate_parts out f number x).number_is (coordinate_fits f number x)

  pub degrees_back : (number x : ℕ) → AnswerBack degrees_signed (degrees_laid (degrees_asked f number x)) out
  degrees_back number x = answer_back degrees_signed (degrees_laid (degrees_asked f number x)) out (degrees_parts out f number x).number_is (degrees_fits f number x)

  pub point_degrees_back : (i j : ℕ) → AnswerBack degrees_signed (degrees_laid (point_degrees_of f i j)) out
  point_degrees_back i j = answer_back degrees_signed (degrees_laid (point_degrees_of f i j)) out (point_degrees_parts out f i j).number_is (point_degrees_fits f i j)

  -- the file's bytes are below 256, as those of every slice are
  pub record_back : ((i : ℕ) → get_or f i 0 < 256) → (x : ℕ) → AnswerBack record_signed (record_answer (record_of f x)) out
  record_back bytes x = answer_back record_signed (record_answer (record_of f x)) out (record_parts out f x).number_is (record_fits f bytes x)

  -- the output is that of the counts
  pub routes_back : (start limit budget room : ℕ) → AnswerBack routes_signed (routes_answer (routes_asked f start limit budget room)) out
  routes_back start limit budget room =
      answer_back routes_signed (routes_answer (routes_asked f start limit budget room)) out (routes_parts out f start limit budget room).number_is (routes_fits f start limit budget room)
