-- What a mark of an X.1 file says: the shapes that both files have (crate rules), and the two that X.1 alone has.
use Rattle.std.specs.Prelude.{ℕ, List, nat_abs, ◌+ℤ◌, ◌-ℤ◌}
use Rattle.octets.specs.Octets.{signed_at}
use Rattle.verdict.specs.Facts.{Claim, always, same, at_most}
use Rattle.verdict.specs.declared.Mark.{Mark}
use Rattle.verdict.specs.declared.Rule.{Rule}
use Rattle.verdict.specs.declared.Rule.TheVariants as rule
use Rattle.rules.specs.Rules.{says}

-- a start, of four bytes at `base`, plus an increment, of three bytes at `field`: at most so far from 0, or 0 apart from the end, of four
-- bytes
abbrev pub sum_claim : List ℕ → Rule → Claim
sum_claim f (rule.SumWithin field base limit) = at_most (nat_abs (signed_at 4 f base +ℤ signed_at 3 f field)) limit
sum_claim f (rule.SumIs field base end) = same (nat_abs ((signed_at 4 f base +ℤ signed_at 3 f field) -ℤ signed_at 4 f end)) 0
sum_claim f (rule.LengthBetween low high) = always
sum_claim f (rule.Is n) = always
sum_claim f (rule.Between low high) = always
sum_claim f (rule.Within limit) = always
sum_claim f (rule.AmongFour a b c d) = always
sum_claim f (rule.AmongFive a b c d e) = always
sum_claim f (rule.Part over modulo low high) = always
sum_claim f (rule.Fits reach from room next) = always
sum_claim f (rule.Whole bytes size next) = always
sum_claim f (rule.EndsAt end) = always
sum_claim f (rule.SizeByte field low high) = always
sum_claim f (rule.LastByte n) = always
sum_claim f (rule.ObjectName least) = always
sum_claim f rule.StationName = always
sum_claim f (rule.Zero field w) = always
sum_claim f (rule.SameAs field next w) = always
sum_claim f (rule.Above field next w) = always
sum_claim f rule.RankInCount = always
sum_claim f (rule.InSequence field) = always
sum_claim f rule.NamesObject = always
sum_claim f rule.IsReturned = always
sum_claim f (rule.NotDoubled field) = always
sum_claim f rule.SameStation = always
sum_claim f rule.InFirst = always
sum_claim f (rule.WithinTrack track) = always

abbrev pub says_of : List ℕ → Mark → Claim
says_of f = says f (λ m. sum_claim f m.rule)
