-- X.1 as it was read by document 01 alone, before ticket 11 of document 02: structure version 1 and no other, and points without a height.
-- Nothing of the product stands on these definitions; they are here so that files of that time are known to read as ever (proofs/Base).
-- `point_size 1` is the size that points had.
use Rattle.std.specs.Prelude.{ℕ, ◌+◌, ◌≡◌, cond, List, [], ◌∷◌, ◌++◌, ltb, pos, length, take}
use Rattle.octets.specs.Octets.{num_at}
use Rattle.octets.specs.declared.Width.TheVariants.{One, Two, Four}
use Rattle.checksum.specs.Checksum.{checksum_of}
use Rattle.verdict.specs.declared.Reason.TheVariants as reason
use Rattle.verdict.specs.Verdicts.{Verdict}
use Rattle.verdict.specs.Facts.{Fact, first_fault}
use Rattle.verdict.specs.Reasons.{shown_of}
use Rattle.verdict.specs.Answers.{Answer, answered, refused, refusal, after_verdict}
use Rattle.rules.specs.Rules.{Between, length_between, is_number}
use Rattle.envelope.specs.Seal.{most_length, end_of, type_at, structure_at}
use Rattle.envelope.specs.Header.{header_in}
use Rattle.x1_records.specs.Places.{least_length, point_size}
use Rattle.x1_records.specs.Tracks.{track_at}
use Rattle.x1_layout.specs.Layout.{count_of}
use Rattle.x1_verdict.specs.Facts.{file_type, sized_facts, verdict_of}
use Rattle.x1_obeys.specs.Obeys.{structure_of, entry_place}
use Rattle.x1_lookup.specs.Lookup.{find_track}
use Rattle.x1_questions.specs.Results.{HeaderAnswer}
use Rattle.std.specs.Prelude.{Ok, Err}
use Rattle.x1_questions.specs.Results.{TrackAnswer}
use Rattle.x1_questions.specs.Results.{PointAnswer}
use Rattle.x1_questions.specs.Results.{CoordinateAnswer}
use Rattle.x1_questions.specs.Questions.{header_of, track_of, point_in, point_of, on_found, coordinate_asked}
use Rattle.x1_questions.specs.Answers.{point_answer}

-- ---- the verdict

-- the structure version had to be 1
abbrev pub seal_was : List ℕ → List Fact
seal_was f =
    is_number reason.Checksum f 0 (end_of f) Four (checksum_of (take (end_of f) f))
    ∷ is_number reason.FileType f 0 type_at One file_type
    ∷ is_number reason.Structure f 0 structure_at Two 1
    ∷ []

abbrev pub facts_was : List ℕ → List Fact
facts_was f = length_between f least_length most_length ∷ (seal_was f ++ sized_facts f (point_size 1))

-- 02: Ticket11.5
abbrev pub verdict_was : List ℕ → Verdict
verdict_was f = shown_of (first_fault (facts_was f))

-- ---- the answers

abbrev pub header_was : List ℕ → HeaderAnswer
header_was f = after_verdict Err (verdict_was f) (Ok (header_in f))

abbrev pub track_was : List ℕ → ℕ → TrackAnswer
track_was f i =
    after_verdict Err (verdict_was f)
    (cond (ltb i (count_of f)) (Ok (track_at f (point_size 1) (entry_place i))) (Err (refusal reason.Question)))

abbrev pub point_was : List ℕ → ℕ → ℕ → PointAnswer
point_was f i j =
    after_verdict Err (verdict_was f)
    (cond (ltb i (count_of f)) (point_in f (point_size 1) (entry_place i) j) (Err (refusal reason.Question)))

-- a point had five values
abbrev pub point_answer_was : PointAnswer → Answer
point_answer_was (Ok p) =
    answered (pos p.position ∷ p.latitude_increment ∷ p.longitude_increment ∷ p.heading ∷ pos p.near ∷ [])
point_answer_was (Err t) = refused 5 t

abbrev pub coordinate_was : List ℕ → ℕ → ℕ → CoordinateAnswer
coordinate_was f number x = after_verdict Err (verdict_was f) (on_found f (point_size 1) x (find_track f number))

-- ---- what is said of them

-- the same answer, and at its end that there is no height: two values more, both 0
-- 02: Ticket11.5
abbrev pub without_height : Answer → Answer
without_height (answered values) = answered (values ++ (pos 0 ∷ pos 0 ∷ []))
without_height (refused n t) = refused (2 + n) t

-- a file reads as ever: its verdict and every answer are what they were, and a point reports that it has no height
-- 02: Ticket11.5
pub record AsEver (f : List ℕ) : Type 0 where
  pub verdict : verdict_of f ≡ verdict_was f
  pub header : header_of f ≡ header_was f
  pub track : (i : ℕ) → track_of f i ≡ track_was f i
  pub point : (i j : ℕ) → point_answer (point_of f i j) ≡ without_height (point_answer_was (point_was f i j))
  pub coordinate : (number x : ℕ) → coordinate_asked f number x ≡ coordinate_was f number x

-- the new file: structure version 2, and its length, its checksum and its type pass
-- 02: Ticket11.6
pub record NewFile (f : List ℕ) : Type 0 where
  pub length_passes : Between 68 65535 (length f)
  pub checksum : num_at 4 f (end_of f) ≡ checksum_of (take (end_of f) f)
  pub file_type : num_at 1 f 0 ≡ 1
  pub version : structure_of f ≡ 2
