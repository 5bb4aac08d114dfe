-- What a mark of the pair says, and what it is of. f is X.1 and g is X.2, whose bytes the mark's place, start and width are of.
use Rattle.std.specs.Prelude.{ℕ, ◌≡◌}
use mathlib.Core.List.{List, Memᴰ}
use Rattle.octets.specs.Octets.{num_at}
use Rattle.verdict.specs.declared.Mark.{Mark}
use Rattle.verdict.specs.declared.Reason.TheVariants as reason
use Rattle.verdict.specs.declared.Rule.{Rule}
use Rattle.verdict.specs.declared.Rule.TheVariants as rule
use Rattle.verdict.specs.Facts.{Claim, always, same, at_most}
use Rattle.x1_lookup.specs.Lookup.{find_track}
use Rattle.x2_layout.specs.declared.Layout.{Layout}
use Rattle.x2_layout.specs.Records.{kind_at, starts}
use Rattle.pair.specs.Pair.{Spot, lies, spots, present, reach}
use Rattle.pair_theorems.specs.Faults.{track_place}

-- ---- what it says

-- What the pair's own shapes say of so many bytes at a place: the station is that of X.1; the track is in X.1; the position is at most
-- the end, in X.1, of the track that the byte at `track` names. Any other shape says nothing here.
abbrev pub own_claim : List ℕ → List ℕ → ℕ → ℕ → Rule → Claim
own_claim f g place width rule.SameStation = same (num_at width g place) (num_at width f place)
own_claim f g place width rule.InFirst = same (present (find_track f (num_at width g place))) 1
own_claim f g place width (rule.WithinTrack track) = at_most (num_at width g place) (reach f (find_track f (num_at 1 g track)))
own_claim f g place width (rule.LengthBetween low high) = always
own_claim f g place width (rule.Is n) = always
own_claim f g place width (rule.Between low high) = always
own_claim f g place width (rule.Within limit) = always
own_claim f g place width (rule.AmongFour a b c d) = always
own_claim f g place width (rule.AmongFive a b c d e) = always
own_claim f g place width (rule.Part over modulo low high) = always
own_claim f g place width (rule.Fits last from room other) = always
own_claim f g place width (rule.Whole bytes size other) = always
own_claim f g place width (rule.EndsAt end) = always
own_claim f g place width (rule.SizeByte field low high) = always
own_claim f g place width (rule.LastByte n) = always
own_claim f g place width (rule.ObjectName least) = always
own_claim f g place width rule.StationName = always
own_claim f g place width (rule.Zero field w) = always
own_claim f g place width (rule.SameAs field other w) = always
own_claim f g place width (rule.Above field other w) = always
own_claim f g place width (rule.SumWithin field base limit) = always
own_claim f g place width (rule.SumIs field base end) = always
own_claim f g place width rule.RankInCount = always
own_claim f g place width (rule.InSequence field) = always
own_claim f g place width rule.NamesObject = always
own_claim f g place width rule.IsReturned = always
own_claim f g place width (rule.NotDoubled field) = always

abbrev pub pair_says : List ℕ → List ℕ → Mark → Claim
pair_says f g m = own_claim f g m.place m.width m.rule

-- ---- what it is of: its reason, its shape, the record and the field

-- the station, in the header; or, of the record that starts where the mark says, the track of a spot, or a position with the track that
-- goes with it
pub data PairHeld (g : List ℕ) (l : Layout) (m : Mark) : Type 0 where
  of_station : m.reason ≡ reason.Station → m.rule ≡ rule.SameStation → m.start ≡ 0 → m.place ≡ 5 → PairHeld g l m
  of_track :
      m.reason ≡ reason.Track → m.rule ≡ rule.InFirst → Memᴰ m.start (starts g l) → (s : Spot)
      → Memᴰ s (spots (kind_at l m.start) m.start)
      → m.place ≡ track_place s → PairHeld g l m
  of_position :
      m.reason ≡ reason.Position → (t : ℕ) → m.rule ≡ rule.WithinTrack t → Memᴰ m.start (starts g l)
      → Memᴰ (lies t m.place) (spots (kind_at l m.start) m.start) → PairHeld g l m
