-- A plan that is read from its first line on (docs/PLAN.md): the lines of its text, each after those above it.
use Rattle.std.specs.Prelude.{ℕ, zero, suc, Bool, true, List, [], ◌∷◌, None, Result, Ok, Err, length, set}
use Rattle.plan_lines.specs.Lines.{before}
use Rattle.plan_lines.specs.declared.Slip.{Slip}
use Rattle.plan_reading.specs.declared.Reading.{Reading}
use Rattle.plan_reading.specs.declared.Said.{Said}
use Rattle.plan_reading.specs.declared.Said.TheVariants as said
use Rattle.plan_reading.specs.Reading.{taken_of, plan_after}

-- ---- the lines of a text

-- a line stands before a line feed, and the last may end with the text
abbrev pub line_of_text : List ℕ → List ℕ
line_of_text s = before 0x0A s

-- the lines of a text, of which the first n bytes are passed over
unfoldable pub lines_after : ℕ → List ℕ → List (List ℕ)
lines_after n [] = []
lines_after (suc n) (c ∷ s) = lines_after n s
lines_after zero (c ∷ s) = line_of_text (c ∷ s) ∷ lines_after (length (line_of_text (c ∷ s))) s

-- 02: Ticket8.4
abbrev pub lines_in : List ℕ → List (List ℕ)
lines_in s = lines_after zero s

-- ---- one after the other

-- how far a plan is read, and the words lent
pub record ReadPlan : Type 0 where
  pub reading : Reading
  pub lent : List ℕ

-- no line is read yet
abbrev pub unread : List ℕ → ReadPlan
unread lent = record { reading = record { start = None; words = 0 }; lent = lent }

-- what the next line says, and the plan after it
abbrev pub said_by : List ℕ → ReadPlan → Result Said Slip
said_by line p = (taken_of line p.reading p.lent).said

abbrev pub after_line : List ℕ → ReadPlan → ReadPlan
after_line line p = record { reading = (taken_of line p.reading p.lent).reading; lent = plan_after line p.reading p.lent }

-- 02: Ticket8.4
unfoldable pub read_lines : List (List ℕ) → ReadPlan → ReadPlan
read_lines [] p = p
read_lines (line ∷ lines) p = read_lines lines (after_line line p)

-- a plan by its text
abbrev pub plan_read : List ℕ → List ℕ → ReadPlan
plan_read text lent = read_lines (lines_in text) (unread lent)

-- ---- the starts that are named

-- a mark for each offset; a line that names a start, or has a route from it, marks it
unfoldable pub named_by : Result Said Slip → List Bool → List Bool
named_by (Ok said.Nothing) named = named
named_by (Ok (said.Start start)) named = set named start true
named_by (Ok (said.Route start)) named = set named start true
named_by (Err slip) named = named

-- 02: Ticket8.4
unfoldable pub named_after : List (List ℕ) → ReadPlan → List Bool → List Bool
named_after [] p named = named
named_after (line ∷ lines) p named = named_after lines (after_line line p) (named_by (said_by line p) named)

-- those that a plan names by its text
abbrev pub named_in : List ℕ → List ℕ → List Bool → List Bool
named_in text lent named = named_after (lines_in text) (unread lent) named
