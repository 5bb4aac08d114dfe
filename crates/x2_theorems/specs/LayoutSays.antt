-- What a mark of an X.2 file's layout says, and where the record starts that it is of.
use Rattle.std.specs.Prelude.{ℕ, zero, suc, ◌-◌, List}
use Rattle.octets.specs.Octets.{num_at}
use Rattle.verdict.specs.declared.Mark.{Mark}
use Rattle.verdict.specs.declared.Rule.{Rule}
use Rattle.verdict.specs.declared.Rule.TheVariants as rule
use Rattle.verdict.specs.Facts.{Claim, always, same, either}
use Rattle.rules.specs.Rules.{lies_between, says}
use Rattle.x2_records.specs.Places.{boundary_size, balise_size}
use Rattle.x2_layout.specs.declared.Layout.{Layout}

-- ---- what it says

-- the one shape that the layout alone has: a size byte is 16, or lies between two numbers
abbrev pub size_claim : List ℕ → Rule → Claim
size_claim f (rule.SizeByte field low high) = either (same (num_at 1 f field) balise_size) (lies_between low high (num_at 1 f field))
size_claim f (rule.LengthBetween low high) = always
size_claim f (rule.Is n) = always
size_claim f (rule.Between low high) = always
size_claim f (rule.Within limit) = always
size_claim f (rule.AmongFour a b c d) = always
size_claim f (rule.AmongFive a b c d e) = always
size_claim f (rule.Part over modulo low high) = always
size_claim f (rule.Fits reach from room next) = always
size_claim f (rule.Whole bytes size next) = always
size_claim f (rule.EndsAt end) = always
size_claim f (rule.Zero field w) = always
size_claim f (rule.SameAs field next w) = always
size_claim f (rule.Above field next w) = always
size_claim f (rule.LastByte n) = always
size_claim f (rule.ObjectName least) = always
size_claim f rule.StationName = always
size_claim f (rule.SumWithin field base limit) = always
size_claim f (rule.SumIs field base end) = always
size_claim f rule.RankInCount = always
size_claim f (rule.InSequence field) = always
size_claim f rule.NamesObject = always
size_claim f rule.IsReturned = always
size_claim f (rule.NotDoubled field) = always
size_claim f rule.SameStation = always
size_claim f rule.InFirst = always
size_claim f (rule.WithinTrack track) = always

abbrev pub layout_says : List ℕ → Mark → Claim
layout_says f = says f (λ m. size_claim f m.rule)

-- ---- its record

-- a rule that names no field is of the record that starts at its place; but where what came does not end at End, of the last boundary
abbrev pub record_for : Layout → ℕ → Rule → ℕ
record_for l place (rule.EndsAt end) = l.turnouts - boundary_size
record_for l place (rule.LengthBetween low high) = place
record_for l place (rule.Is n) = place
record_for l place (rule.Between low high) = place
record_for l place (rule.Within limit) = place
record_for l place (rule.AmongFour a b c d) = place
record_for l place (rule.AmongFive a b c d e) = place
record_for l place (rule.Part over modulo low high) = place
record_for l place (rule.Fits reach from room next) = place
record_for l place (rule.Whole bytes size next) = place
record_for l place (rule.Zero field w) = place
record_for l place (rule.SameAs field next w) = place
record_for l place (rule.Above field next w) = place
record_for l place (rule.SizeByte field low high) = place
record_for l place (rule.LastByte n) = place
record_for l place (rule.ObjectName least) = place
record_for l place rule.StationName = place
record_for l place (rule.SumWithin field base limit) = place
record_for l place (rule.SumIs field base end) = place
record_for l place rule.RankInCount = place
record_for l place (rule.InSequence field) = place
record_for l place rule.NamesObject = place
record_for l place rule.IsReturned = place
record_for l place (rule.NotDoubled field) = place
record_for l place rule.SameStation = place
record_for l place rule.InFirst = place
record_for l place (rule.WithinTrack track) = place

-- a field of one byte or more is the header's, which starts at 0
abbrev pub start_for : Layout → ℕ → ℕ → Rule → ℕ
start_for l zero place r = record_for l place r
start_for l (suc width) place r = 0

abbrev pub layout_start : Layout → Mark → ℕ
layout_start l m = start_for l m.width m.place m.rule
