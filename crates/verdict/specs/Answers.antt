-- The one shape of an answer to a question: values, or a fault (01: 'A refused answer holds the number, the place and, for the pair, the
-- file; all else in it is 0'). Every enum of answers is made one of these, in the crate that declares it. Also what every question has in
-- common: it first gives its file's own fault.
use Rattle.std.specs.Prelude.{ℕ, List, ℤ, pos, replicate}
use Rattle.verdict.specs.declared.Reason.{Reason}
use Rattle.verdict.specs.declared.Reason.TheVariants.{Question}
use Rattle.verdict.specs.declared.Fault.{Fault}
use Rattle.verdict.specs.Verdicts.{Verdict}
use Rattle.std.specs.Prelude.{Ok, Err}
use Rattle.verdict.specs.Reasons.{number_of}

-- ---- the answer

-- values, in the order in which they are printed; or how many there would have been, and the fault
-- 01: Form.10
pub data Answer : Type 0 where
  answered : List ℤ → Answer
  -- 01: Ask.4
  refused : ℕ → Fault → Answer

-- the paper's number, place and values of an answer
-- 01: No.0, Ask.4, Form.10
abbrev pub answer_number : Answer → ℕ
answer_number (answered values) = 0
answer_number (refused n t) = number_of t.reason

-- 01: Ask.4, Form.10
abbrev pub answer_place : Answer → ℕ
answer_place (answered values) = 0
answer_place (refused n t) = t.place

-- 01: Ask.5, Form.10
abbrev pub answer_values : Answer → List ℤ
answer_values (answered values) = values
answer_values (refused n t) = replicate n (pos 0)

-- ---- the question

-- a refusal of the question itself, at place 0
abbrev pub refusal : Reason → Fault
refusal r = record { reason = r; place = 0 }

-- the file's own fault first, and only then an answer; `say` makes an answer of a fault
-- 01: Form.5
abbrev pub after_verdict : {A : Type 0} → (Fault → A) → Verdict → A → A
after_verdict say (Ok tt) a = a
after_verdict say (Err t) a = say t

-- the fault of a verdict that refuses; an accepted file has none, and what stands here for it is never asked for
abbrev pub fault_in : Verdict → Fault
fault_in (Ok tt) = refusal Question
fault_in (Err t) = t
