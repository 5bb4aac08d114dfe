-- THEOREM: what each question on an X.2 file answers, for every input: the file's own fault, or what the question's own checks say.
use Prim.Native.Nat.{ℕ}
use mathlib.Core.Path.{◌≡◌, refl, sym, ◌∙◌}
use mathlib.Core.Bool.{Bool, true, false, true≢false}
use mathlib.Core.Logic.{◌↔◌}
use mathlib.Core.List.{List, [], Memᴰ}
use native.Mathlib.Omega.{arith}
use Rattle.verdict.specs.declared.Reason.TheVariants.{Question}
use Rattle.verdict.specs.Facts.{test}
use Rattle.verdict.specs.Answers.{answered, answer_number, answer_place}
use Rattle.verdict.specs.Order.{Asked}
use Rattle.verdict.proofs.Questions.{asked_is, AnswerIs, all_passed, passed, failed}
use Rattle.x2_records.specs.Records.{record_at}
use Rattle.x2_layout.specs.Layout.{layout_of}
use Rattle.x2_layout.specs.Records.{kind_at, starts, is_start}
use Rattle.x2_layout.proofs.Starts.{start_tested}
use Rattle.x2_verdict.specs.Facts.{verdict_of}
use Rattle.x2_verdict.specs.Questions.{named_header_in, named_header_of, record_if, record_of}
use Rattle.x2_verdict.specs.Answers.{named_header_values, named_header_answer, value_count, record_values, record_answer}
use Rattle.x2_theorems.specs.Asked.{header_checks, record_checks}
use Rattle.std.specs.Prelude.{Ok, Err}

module _ (f : List ℕ) where
  -- ---- the header

  -- THEOREM: the file's own fault, and no other.
  pub header_asked : (n p : ℕ)
      → ((answer_number (named_header_answer (named_header_of f)) ≡ n) × (answer_place (named_header_answer (named_header_of f)) ≡ p)) ↔ Asked (verdict_of f) header_checks n p
  unfolding named_header_of
  header_asked n p =
      asked_is Err named_header_answer (verdict_of f) (Ok (named_header_in f)) header_checks (λ t. (refl, refl))
      (λ e. (all_passed (named_header_values (named_header_in f))).exactly) n p

  -- ---- the record at x

  -- a record starts there
  abbrev Started : ℕ → Type 0
  Started x = Memᴰ x (starts f (layout_of f))

  record_own : (x : ℕ) (t : Bool) → test (is_start f (layout_of f) x) ≡ t → AnswerIs (record_answer (record_if t f x)) (record_checks f x)
  record_own x true e =
      let values = record_values (record_at f (kind_at (layout_of f) x) x) in
      passed (Started x) [] 13 (answered values) ((start_tested f (layout_of f) x).0 e) (λ z. omega arith) (all_passed values)
  record_own x false e = failed (Started x) [] Question value_count (λ m. true≢false (sym ((start_tested f (layout_of f) x).1 m) ∙ e))

  -- THEOREM: the file's own fault, then 13 exactly where no record starts at the offset.
  pub record_asked : (x n p : ℕ) → ((answer_number (record_answer (record_of f x)) ≡ n) × (answer_place (record_answer (record_of f x)) ≡ p)) ↔ Asked (verdict_of f) (record_checks f x) n p
  unfolding record_of
  record_asked x n p =
      asked_is Err record_answer (verdict_of f) (record_if (test (is_start f (layout_of f) x)) f x) (record_checks f x) (λ t. (refl, refl))
      (λ e. (record_own x (test (is_start f (layout_of f) x)) refl).exactly) n p
