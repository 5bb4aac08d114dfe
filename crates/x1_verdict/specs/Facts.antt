-- All facts of an X.1 file in 01's order, and the verdict: the first that fails. `newest` is the newest structure version that the reader
-- knows (02, ticket 11: 'a version 1 reader still answers 4 to the new file').
use Rattle.std.specs.Prelude.{ℕ, List, ◌∷◌, ◌++◌}
use Rattle.verdict.specs.Facts.{Fact, first_fault}
use Rattle.verdict.specs.Reasons.{shown_of}
use Rattle.verdict.specs.Verdicts.{Judged}
use Rattle.verdict.specs.Verdicts.{Verdict}
use Rattle.rules.specs.Rules.{length_between}
use Rattle.envelope.specs.Seal.{most_length, seal_facts}
use Rattle.x1_records.specs.Places.{least_length, least_length_in, newest_version}
use Rattle.x1_layout.specs.Layout.{structure_of, size_of, layout_facts}
use Rattle.x1_verdict.specs.Fields.{field_facts}
use Rattle.x1_verdict.specs.Agreement.{agreement_facts}

-- an X.1 file's type
abbrev pub file_type : ℕ
file_type = 1

-- what is checked over the size of a point: the layout, the fields and the agreement
-- 02: Ticket11.3
unfoldable pub sized_facts : List ℕ → ℕ → List Fact
sized_facts f size = layout_facts f size ++ (field_facts f size ++ agreement_facts f size)

-- all facts, for a reader that knows the structure versions up to the newest: the length, the seal, the least length in the file's own
-- version, and the rest over the size of a point in it
-- 02: Ticket11.6
unfoldable pub facts_by : ℕ → List ℕ → List Fact
facts_by newest f =
    length_between f least_length most_length
    ∷ (seal_facts f file_type newest ++ (length_between f (least_length_in (structure_of f)) most_length ∷ sized_facts f (size_of f)))

-- the first fact that fails, and the verdict that is answered
abbrev pub judged_by : ℕ → List ℕ → Judged
judged_by newest f = first_fault (facts_by newest f)

-- 02: Ticket11.6
abbrev pub verdict_by : ℕ → List ℕ → Verdict
verdict_by newest f = shown_of (judged_by newest f)

-- the same of the reader that users have, which knows every structure version
abbrev pub facts : List ℕ → List Fact
facts = facts_by newest_version

abbrev pub judged_of : List ℕ → Judged
judged_of = judged_by newest_version

abbrev pub verdict_of : List ℕ → Verdict
verdict_of = verdict_by newest_version
