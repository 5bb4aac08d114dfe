-- The constructors of facts that both files have: one for each shape of rule, one relation each. `start` is where the record starts and
-- `place` the byte place that a refusal reports. The claim of each is what its mark says (`says`).
use Rattle.std.specs.Prelude.{ℕ, suc, ◌-◌, ◌/◌, ◌%◌, ◌≤◌, ◌≡◌, ◌⊎◌, List, length, nat_abs}
use Rattle.octets.specs.declared.Width.{Width}
use Rattle.octets.specs.Octets.{bytes_of, num_at, signed_at}
use Rattle.verdict.specs.declared.Mark.{Mark}
use Rattle.verdict.specs.declared.Reason.{Reason}
use Rattle.verdict.specs.declared.Reason.TheVariants.{Length, Layout, Agreement}
use Rattle.verdict.specs.declared.Rule.{Rule}
use Rattle.verdict.specs.declared.Rule.TheVariants as rule
use Rattle.verdict.specs.Facts.{Claim, same, at_most, both, either, Fact, fact}

-- ---- what a shape says of a number

abbrev pub lies_between : ℕ → ℕ → ℕ → Claim
lies_between low high x = both (at_most low x) (at_most x high)

-- the same as a statement: x lies between two numbers, which it may equal
abbrev pub Between : ℕ → ℕ → ℕ → Type 0
Between low high x = (low ≤ x) × (x ≤ high)

abbrev pub is_among_four : ℕ → ℕ → ℕ → ℕ → ℕ → Claim
is_among_four a b c d x = either (same x a) (either (same x b) (either (same x c) (same x d)))

abbrev pub is_among_five : ℕ → ℕ → ℕ → ℕ → ℕ → ℕ → Claim
is_among_five a b c d e x = either (same x a) (either (same x b) (either (same x c) (either (same x d) (same x e))))

-- ---- the constructors

-- the file's length lies between two numbers
abbrev pub length_between : List ℕ → ℕ → ℕ → Fact
length_between f low high =
    fact (lies_between low high (length f)) (record { reason = Length; start = 0; place = 0; width = 0; rule = rule.LengthBetween low high })

-- the number at a place is this one
abbrev pub is_number : Reason → List ℕ → ℕ → ℕ → Width → ℕ → Fact
is_number r f start place w x =
    fact (same (num_at (bytes_of w) f place) x) (record { reason = r; start = start; place = place; width = bytes_of w; rule = rule.Is x })

-- the number at a place lies between two numbers
abbrev pub between : Reason → List ℕ → ℕ → ℕ → Width → ℕ → ℕ → Fact
between r f start place w low high =
    fact (lies_between low high (num_at (bytes_of w) f place))
    (record { reason = r; start = start; place = place; width = bytes_of w; rule = rule.Between low high })

-- what ends at `reach`, which the field `from` tells, fits into a room that ends at `room`, which is `other` or the number there
abbrev pub fits : ℕ → ℕ → ℕ → ℕ → ℕ → ℕ → ℕ → Fact
fits start place width reach from room other =
    fact (at_most reach room)
    (record { reason = Layout; start = start; place = place; width = width; rule = rule.Fits reach from room other })

-- so many bytes, between what the place tells and what `other` does, are whole records of a size
abbrev pub whole : ℕ → ℕ → ℕ → ℕ → ℕ → ℕ → Fact
whole start place width bytes size other =
    fact (same (bytes % size) 0)
    (record { reason = Layout; start = start; place = place; width = width; rule = rule.Whole bytes size other })

-- what stops at a place stops at the end that is due
abbrev pub ends_at : ℕ → ℕ → ℕ → Fact
ends_at start place end =
    fact (same place end) (record { reason = Layout; start = start; place = place; width = 0; rule = rule.EndsAt end })

-- the number of a field is 0
abbrev pub zero_at : List ℕ → ℕ → ℕ → Width → ℕ → Fact
zero_at f start place w field =
    fact (same (num_at (bytes_of w) f field) 0)
    (record { reason = Agreement; start = start; place = place; width = 0; rule = rule.Zero field (bytes_of w) })

-- the number of a field is that of another field
abbrev pub same_as : List ℕ → ℕ → ℕ → Width → ℕ → ℕ → Fact
same_as f start place w field other =
    fact (same (num_at (bytes_of w) f field) (num_at (bytes_of w) f other))
    (record { reason = Agreement; start = start; place = place; width = 0; rule = rule.SameAs field other (bytes_of w) })

-- the number of a field is above that of another field
abbrev pub above : List ℕ → ℕ → ℕ → Width → ℕ → ℕ → Fact
above f start place w field other =
    fact (at_most (suc (num_at (bytes_of w) f other)) (num_at (bytes_of w) f field))
    (record { reason = Agreement; start = start; place = place; width = 0; rule = rule.Above field other (bytes_of w) })

-- ---- what a mark says; `other` is the claim of a shape that one file alone has

-- what a shape says of the bytes at a place
abbrev pub claim_of : List ℕ → Claim → ℕ → ℕ → Rule → Claim
claim_of f other width place (rule.LengthBetween low high) = lies_between low high (length f)
claim_of f other width place (rule.Is n) = same (num_at width f place) n
claim_of f other width place (rule.Between low high) = lies_between low high (num_at width f place)
claim_of f other width place (rule.Within limit) = at_most (nat_abs (signed_at width f place)) limit
claim_of f other width place (rule.AmongFour a b c d) = is_among_four a b c d (num_at width f place)
claim_of f other width place (rule.AmongFive a b c d e) = is_among_five a b c d e (num_at width f place)
claim_of f other width place (rule.Part over modulo low high) = lies_between low high (num_at width f place / over % modulo)
claim_of f other width place (rule.Fits reach from room next) = at_most reach room
claim_of f other width place (rule.Whole bytes size next) = same (bytes % size) 0
claim_of f other width place (rule.EndsAt end) = same place end
claim_of f other width place (rule.Zero field w) = same (num_at w f field) 0
claim_of f other width place (rule.SameAs field next w) = same (num_at w f field) (num_at w f next)
claim_of f other width place (rule.Above field next w) = at_most (suc (num_at w f next)) (num_at w f field)
claim_of f other width place (rule.SizeByte field low high) = other
claim_of f other width place (rule.LastByte n) = other
claim_of f other width place (rule.ObjectName least) = other
claim_of f other width place rule.StationName = other
claim_of f other width place (rule.SumWithin field base limit) = other
claim_of f other width place (rule.SumIs field base end) = other
claim_of f other width place rule.RankInCount = other
claim_of f other width place (rule.InSequence field) = other
claim_of f other width place rule.NamesObject = other
claim_of f other width place rule.IsReturned = other
claim_of f other width place (rule.NotDoubled field) = other
claim_of f other width place rule.SameStation = other
claim_of f other width place rule.InFirst = other
claim_of f other width place (rule.WithinTrack track) = other

abbrev pub says : List ℕ → (Mark → Claim) → Mark → Claim
says f other m = claim_of f (other m) m.width m.place m.rule

-- ---- what a mark names: the room of a rule, and what its bytes lie between

-- x is the place p itself, or the number of two bytes that stands there
abbrev pub ToldAt : List ℕ → ℕ → ℕ → Type 0
ToldAt f p x = (p ≡ x) ⊎ (num_at 2 f p ≡ x)

-- x is how far two numbers are apart
abbrev pub Apart : ℕ → ℕ → ℕ → Type 0
Apart a b x = (x ≡ a - b) ⊎ (x ≡ b - a)

-- the room is told at the place that the rule names, and the bytes lie between what is told at that place and the number at the mark's
abbrev pub Names : List ℕ → ℕ → Rule → Type 0
Names f place (rule.Fits reach from room other) = ToldAt f other room
Names f place (rule.Whole bytes size other) = (x : ℕ) × ToldAt f other x × Apart x (num_at 2 f place) bytes
Names f place (rule.LengthBetween low high) = Unit {0}
Names f place (rule.Is n) = Unit {0}
Names f place (rule.Between low high) = Unit {0}
Names f place (rule.Within limit) = Unit {0}
Names f place (rule.AmongFour a b c d) = Unit {0}
Names f place (rule.AmongFive a b c d e) = Unit {0}
Names f place (rule.Part over modulo low high) = Unit {0}
Names f place (rule.EndsAt end) = Unit {0}
Names f place (rule.Zero field w) = Unit {0}
Names f place (rule.SameAs field next w) = Unit {0}
Names f place (rule.Above field next w) = Unit {0}
Names f place (rule.SizeByte field low high) = Unit {0}
Names f place (rule.LastByte n) = Unit {0}
Names f place (rule.ObjectName least) = Unit {0}
Names f place rule.StationName = Unit {0}
Names f place (rule.SumWithin field base limit) = Unit {0}
Names f place (rule.SumIs field base end) = Unit {0}
Names f place rule.RankInCount = Unit {0}
Names f place (rule.InSequence field) = Unit {0}
Names f place rule.NamesObject = Unit {0}
Names f place rule.IsReturned = Unit {0}
Names f place (rule.NotDoubled field) = Unit {0}
Names f place rule.SameStation = Unit {0}
Names f place rule.InFirst = Unit {0}
Names f place (rule.WithinTrack track) = Unit {0}
