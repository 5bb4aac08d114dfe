-- What a mark of an X.2 file says, what record it is of and what it names: by the check of the mark's reason.
use Rattle.std.specs.Prelude.{ℕ, ◌+◌, ◌-◌, ◌≡◌, ◌⊎◌}
use mathlib.Core.List.{List, Memᴰ}
use Rattle.verdict.specs.declared.Mark.{Mark}
use Rattle.verdict.specs.declared.Rule.{Rule}
use Rattle.verdict.specs.declared.Rule.TheVariants as rule
use Rattle.verdict.specs.declared.Reason.{Reason}
use Rattle.verdict.specs.declared.Reason.TheVariants.{Length, Checksum, FileType, Structure, Layout, Field, Agreement, Target, Return}
use Rattle.verdict.specs.declared.Reason.TheVariants.{Station, Track, Position, Question, Steps, Room, Kinds, Identity, Order, Piece}
use Rattle.verdict.specs.Facts.{Claim, always}
use Rattle.rules.specs.Rules.{says, Names}
use Rattle.x2_layout.specs.Layout.{layout_of}
use Rattle.x2_theorems.specs.LayoutSays.{layout_says, layout_start}
use Rattle.x2_layout.specs.declared.Layout as shape
use Rattle.x2_layout.specs.Records.{starts, record_before}
use Rattle.x2_theorems.specs.FieldSays.{field_says, agreement_says}
use Rattle.x2_theorems.specs.LinkSays.{target_says, return_says}

-- ---- what it says

-- the checks of the length, the checksum, the type and the version have no shapes of their own
abbrev pub seal_says : List ℕ → Mark → Claim
seal_says f = says f (λ m. always)

-- what a mark of a check says; the reasons of the pair and of questions are no file's own
abbrev pub says_for : List ℕ → Reason → Mark → Claim
says_for f Length = seal_says f
says_for f Checksum = seal_says f
says_for f FileType = seal_says f
says_for f Structure = seal_says f
says_for f Layout = layout_says f
says_for f Field = field_says f (layout_of f)
says_for f Agreement = agreement_says f (layout_of f)
says_for f Target = target_says f (layout_of f)
says_for f Return = return_says f (layout_of f)
says_for f Station = λ m. always
says_for f Track = λ m. always
says_for f Position = λ m. always
says_for f Question = λ m. always
says_for f Steps = λ m. always
says_for f Room = λ m. always
says_for f Kinds = λ m. always
says_for f Identity = λ m. always
says_for f Order = λ m. always
says_for f Piece = λ m. always

abbrev pub says_of : List ℕ → Mark → Claim
says_of f m = says_for f m.reason m

-- ---- its record, and what it names

-- the field of another record that a rule names, and d where it names none
abbrev pub other_field : ℕ → Rule → ℕ
other_field d (rule.InSequence field) = field
other_field d (rule.SameAs field other w) = other
other_field d (rule.LengthBetween low high) = d
other_field d (rule.Is n) = d
other_field d (rule.Between low high) = d
other_field d (rule.Within limit) = d
other_field d (rule.AmongFour a b c e) = d
other_field d (rule.AmongFive a b c e g) = d
other_field d (rule.Part over modulo low high) = d
other_field d (rule.Fits reach from room next) = d
other_field d (rule.Whole bytes size next) = d
other_field d (rule.EndsAt end) = d
other_field d (rule.Zero field w) = d
other_field d (rule.Above field other w) = d
other_field d (rule.SizeByte field low high) = d
other_field d (rule.LastByte n) = d
other_field d (rule.ObjectName least) = d
other_field d rule.StationName = d
other_field d (rule.SumWithin field base limit) = d
other_field d (rule.SumIs field base end) = d
other_field d rule.RankInCount = d
other_field d rule.NamesObject = d
other_field d rule.IsReturned = d
other_field d (rule.NotDoubled field) = d
other_field d rule.SameStation = d
other_field d rule.InFirst = d
other_field d (rule.WithinTrack track) = d

-- that field stands in the record directly before where the mark's own field stands in its record
abbrev pub NamesBefore : List ℕ → shape.Layout → Mark → Type 0
NamesBefore f l m =
    other_field (record_before f l m.start + (m.place - m.start)) m.rule ≡ record_before f l m.start + (m.place - m.start)

-- A mark's start is the start of the record that it is of: 0 of the header, and a record's of a record. In a layout at fault a record
-- starts where its mark says (crate x2_layout), and there the mark names the fields that its numbers are told at.
abbrev pub HeldFor : List ℕ → Reason → Mark → Type 0
HeldFor f Length m = m.start ≡ 0
HeldFor f Checksum m = m.start ≡ 0
HeldFor f FileType m = m.start ≡ 0
HeldFor f Structure m = m.start ≡ 0
HeldFor f Layout m = (m.start ≡ layout_start (layout_of f) m) × Names f m.place m.rule
HeldFor f Field m = (m.start ≡ 0) ⊎ Memᴰ m.start (starts f (layout_of f))
HeldFor f Agreement m = (m.start ≡ 0) ⊎ (Memᴰ m.start (starts f (layout_of f)) × NamesBefore f (layout_of f) m)
HeldFor f Target m = Memᴰ m.start (starts f (layout_of f))
HeldFor f Return m = Memᴰ m.start (starts f (layout_of f)) × NamesBefore f (layout_of f) m
HeldFor f Station m = Unit {0}
HeldFor f Track m = Unit {0}
HeldFor f Position m = Unit {0}
HeldFor f Question m = Unit {0}
HeldFor f Steps m = Unit {0}
HeldFor f Room m = Unit {0}
HeldFor f Kinds m = Unit {0}
HeldFor f Identity m = Unit {0}
HeldFor f Order m = Unit {0}
HeldFor f Piece m = Unit {0}

abbrev pub HeldOf : List ℕ → Mark → Type 0
HeldOf f m = HeldFor f m.reason m
