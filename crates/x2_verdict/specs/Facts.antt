-- All facts of an X.2 file in 01's order, and the verdict: the first that fails.
use Rattle.std.specs.Prelude.{ℕ, List, ◌∷◌, ◌++◌}
use Rattle.verdict.specs.Facts.{Fact, first_fault}
use Rattle.verdict.specs.Reasons.{shown_of}
use Rattle.verdict.specs.Verdicts.{Judged}
use Rattle.verdict.specs.Verdicts.{Verdict}
use Rattle.rules.specs.Rules.{length_between}
use Rattle.envelope.specs.Seal.{most_length, seal_facts}
use Rattle.x2_layout.specs.declared.Layout.{Layout}
use Rattle.x2_layout.specs.Layout.{layout_of}
use Rattle.x2_layout.specs.Facts.{layout_facts}
use Rattle.x2_fields.specs.Fields.{field_facts}
use Rattle.x2_fields.specs.Agreement.{agreement_facts}
use Rattle.x2_links.specs.Links.{target_facts, return_facts}

-- how long an X.2 file is at least, and its type
abbrev pub least_length : ℕ
least_length = 69

abbrev pub file_type : ℕ
file_type = 2

-- the newest structure version, and the only one (02, ticket 11: 'X.2 and X.3 stay at version 1')
-- 02: Ticket11.7
abbrev pub newest_version : ℕ
newest_version = 1

-- the checks of the records: fields, agreement, link targets, link returns
unfoldable pub record_facts : List ℕ → Layout → List Fact
record_facts f l = field_facts f l ++ (agreement_facts f l ++ (target_facts f l ++ return_facts f l))

-- all checks but the first
unfoldable pub check_facts : List ℕ → List Fact
check_facts f = seal_facts f file_type newest_version ++ (layout_facts f (layout_of f) ++ record_facts f (layout_of f))

unfoldable pub facts : List ℕ → List Fact
facts f = length_between f least_length most_length ∷ check_facts f

-- the first fact that fails
abbrev pub judged_of : List ℕ → Judged
judged_of f = first_fault (facts f)

-- the verdict that is answered
-- 01: Yardlist.1, Yardlist.2
abbrev pub verdict_of : List ℕ → Verdict
verdict_of f = shown_of (judged_of f)
