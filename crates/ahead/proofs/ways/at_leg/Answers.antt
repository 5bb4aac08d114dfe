-- `ahead::ways::at_leg` meets its contract.
use Rattle.ahead.specs.Ways.{trail_of}
use Rattle.ahead.proofs.Legs.{same_byte}
use Rattle.ahead.proofs.ways.at_leg.Goals as goal

pub returns-then-eq : goal.returns-then-eq
unfolding trail_of
returns-then-eq c = simp (same_byte, ← c.eq.ensures, c.if-eq.true)

pub returns : goal.returns
unfolding trail_of
returns c = simp (same_byte, ← c.eq.ensures, c.if-eq.false)
