-- What a mark of a field, or of the agreement, says of an X.2 file: by the shapes that both files have (crate rules), and by those that
-- these two checks alone have.
use Rattle.std.specs.Prelude.{ℕ, ◌+◌, ◌-◌, List}
use Rattle.octets.specs.Octets.{num_at}
use Rattle.verdict.specs.declared.Mark.{Mark}
use Rattle.verdict.specs.declared.Rule.{Rule}
use Rattle.verdict.specs.declared.Rule.TheVariants as rule
use Rattle.verdict.specs.Facts.{Claim, always, same, at_most, either}
use Rattle.rules.specs.Rules.{says}
use Rattle.names.specs.Names.{object_name, station_name}
use Rattle.x2_records.specs.Rows.{balise_group}
use Rattle.x2_records.specs.Tables.{rank_of, group_count_of}
use Rattle.x2_layout.specs.declared.Layout.{Layout}
use Rattle.x2_layout.specs.Records.{kind_at}
use Rattle.x2_fields.specs.Agreement.{goes_before}

-- what their own shapes say of so many bytes at a place; any other shape says nothing here
abbrev pub own_claim : List ℕ → Layout → ℕ → ℕ → Rule → Claim
own_claim f l place width (rule.LastByte n) = same (num_at 1 f (place + width - 1)) n
own_claim f l place width (rule.ObjectName least) = object_name f place least
own_claim f l place width rule.StationName = station_name f place
own_claim f l place width rule.RankInCount = at_most (rank_of (num_at 1 f place)) (group_count_of (num_at 1 f place))
own_claim f l place width (rule.InSequence field) =
    let before = field - balise_group.offset in
    either (same (rank_of (num_at 1 f place)) 1) (goes_before f (kind_at l before) before (place - balise_group.offset))
own_claim f l place width (rule.LengthBetween low high) = always
own_claim f l place width (rule.Is n) = always
own_claim f l place width (rule.Between low high) = always
own_claim f l place width (rule.Within limit) = always
own_claim f l place width (rule.AmongFour a b c d) = always
own_claim f l place width (rule.AmongFive a b c d e) = always
own_claim f l place width (rule.Part over modulo low high) = always
own_claim f l place width (rule.Fits reach from room other) = always
own_claim f l place width (rule.Whole bytes size other) = always
own_claim f l place width (rule.EndsAt end) = always
own_claim f l place width (rule.Zero field w) = always
own_claim f l place width (rule.SameAs field other w) = always
own_claim f l place width (rule.Above field other w) = always
own_claim f l place width (rule.SizeByte field low high) = always
own_claim f l place width (rule.SumWithin field base limit) = always
own_claim f l place width (rule.SumIs field base end) = always
own_claim f l place width rule.NamesObject = always
own_claim f l place width rule.IsReturned = always
own_claim f l place width (rule.NotDoubled field) = always
own_claim f l place width rule.SameStation = always
own_claim f l place width rule.InFirst = always
own_claim f l place width (rule.WithinTrack track) = always

abbrev pub field_says : List ℕ → Layout → Mark → Claim
field_says f l = says f (λ m. own_claim f l m.place m.width m.rule)

abbrev pub agreement_says : List ℕ → Layout → Mark → Claim
agreement_says f l = says f (λ m. own_claim f l m.place m.width m.rule)
