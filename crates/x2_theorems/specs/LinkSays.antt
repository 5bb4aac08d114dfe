-- What a mark of a link says of an X.2 file: by the shapes that both files have (crate rules), and by those that the checks of links alone
-- have.
use Rattle.std.specs.Prelude.{ℕ, List}
use Rattle.verdict.specs.declared.Mark.{Mark}
use Rattle.verdict.specs.declared.Rule.{Rule}
use Rattle.verdict.specs.declared.Rule.TheVariants as rule
use Rattle.verdict.specs.Facts.{Claim, always, same, both, either, denied}
use Rattle.rules.specs.Rules.{says}
use Rattle.x2_layout.specs.declared.Layout.{Layout}
use Rattle.x2_layout.specs.Records.{kind_at}
use Rattle.x2_links.specs.Links.{link_at, is_target, links_to}

-- what their own shapes say of the link at a place, of the record at `start`; any other shape says nothing here
abbrev pub own_claim : List ℕ → Layout → ℕ → ℕ → Rule → Claim
own_claim f l start place rule.NamesObject =
    either (same (link_at f place) 0) (both (denied (same (link_at f place) start)) (is_target f l (link_at f place)))
own_claim f l start place rule.IsReturned = either (same (link_at f place) 0) (links_to f (kind_at l (link_at f place)) (link_at f place) start)
own_claim f l start place (rule.NotDoubled field) = either (same (link_at f place) 0) (denied (same (link_at f field) (link_at f place)))
own_claim f l start place (rule.LengthBetween low high) = always
own_claim f l start place (rule.Is n) = always
own_claim f l start place (rule.Between low high) = always
own_claim f l start place (rule.Within limit) = always
own_claim f l start place (rule.AmongFour a b c d) = always
own_claim f l start place (rule.AmongFive a b c d e) = always
own_claim f l start place (rule.Part over modulo low high) = always
own_claim f l start place (rule.Fits reach from room other) = always
own_claim f l start place (rule.Whole bytes size other) = always
own_claim f l start place (rule.EndsAt end) = always
own_claim f l start place (rule.Zero field w) = always
own_claim f l start place (rule.SameAs field other w) = always
own_claim f l start place (rule.Above field other w) = always
own_claim f l start place (rule.SizeByte field low high) = always
own_claim f l start place (rule.LastByte n) = always
own_claim f l start place (rule.ObjectName least) = always
own_claim f l start place rule.StationName = always
own_claim f l start place (rule.SumWithin field base limit) = always
own_claim f l start place (rule.SumIs field base end) = always
own_claim f l start place rule.RankInCount = always
own_claim f l start place (rule.InSequence field) = always
own_claim f l start place rule.SameStation = always
own_claim f l start place rule.InFirst = always
own_claim f l start place (rule.WithinTrack track) = always

abbrev pub target_says : List ℕ → Layout → Mark → Claim
target_says f l = says f (λ m. own_claim f l m.start m.place m.rule)

abbrev pub return_says : List ℕ → Layout → Mark → Claim
return_says f l = says f (λ m. own_claim f l m.start m.place m.rule)
