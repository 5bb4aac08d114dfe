-- X.2's questions 'header' and 'record at an offset' (01: 'A question ..'). Each first gives its file's own fault. An offset where no
-- record starts is 13.
use Rattle.std.specs.Prelude.{ℕ, Bool, true, false, List}
use Rattle.verdict.specs.declared.Reason.TheVariants.{Question}
use Rattle.verdict.specs.Answers.{refusal, after_verdict}
use Rattle.verdict.specs.Facts.{test}
use Rattle.names.specs.Names.{station_name_length}
use Rattle.envelope.specs.Header.{header_in}
use Rattle.x2_records.specs.Records.{record_at}
use Rattle.x2_layout.specs.Places.{name_at}
use Rattle.x2_layout.specs.Layout.{layout_of}
use Rattle.x2_layout.specs.Records.{kind_at, is_start}
use Rattle.x2_verdict.specs.declared.NamedHeader.{NamedHeader}
use Rattle.x2_verdict.specs.Results.{NamedHeaderAnswer}
use Rattle.std.specs.Prelude.{Ok, Err}
use Rattle.x2_verdict.specs.Results.{RecordAnswer}
use Rattle.x2_verdict.specs.Facts.{verdict_of}

-- ---- the header

-- what both files have alike, and the station's name: its place, and how many bytes it has without its closing zeros
unfoldable pub named_header_in : List ℕ → NamedHeader
named_header_in f = record { header = header_in f; name = name_at; name_bytes = station_name_length f name_at }

unfoldable pub named_header_of : List ℕ → NamedHeaderAnswer
named_header_of f = after_verdict Err (verdict_of f) (Ok (named_header_in f))

-- ---- the record at an offset

-- the record at x, where one starts there
abbrev pub record_if : Bool → List ℕ → ℕ → RecordAnswer
record_if true f x = Ok (record_at f (kind_at (layout_of f) x) x)
record_if false f x = Err (refusal Question)

-- 01: Ask.1
unfoldable pub record_of : List ℕ → ℕ → RecordAnswer
record_of f x = after_verdict Err (verdict_of f) (record_if (test (is_start f (layout_of f) x)) f x)
