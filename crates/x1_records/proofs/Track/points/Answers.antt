-- `x1_records::Track::points` meets its contract.
use Prim.Native.Nat.{ℕ, ◌+◌, ◌/◌, ◌^◌, ◌<◌}
use mathlib.Core.Path.{◌≡◌}
use native.Mathlib.Nat.{div-le_self}
use native.Mathlib.Omega.{arith}
use borrow.Author.Tests.{lt-ltb, le-ltb}
use Rattle.x1_records.specs.Tracks.{points_in}
use borrow.Author.Rules.{rules}
use Rattle.x1_records.proofs.Track.points.Goals as goal

-- no more points than bytes
few : (x d r : ℕ) → r ≡ x / d → x < 2 ^ 16 → r + 1 < 2 ^ 64
few x d r e h = let q = div-le_self x d in omega arith

pub returns-then-last-first : goal.returns-then-last-first
unfolding points_in
returns-then-last-first c = simp (lt-ltb _ _ c.if-last-first.true)

pub overflow_add-result : goal.overflow_add-result
overflow_add-result c = record { fits = few _ _ _ c.quotient.ensures (search rules) }

pub returns : goal.returns
unfolding points_in
returns c = simp (c.quotient.ensures, le-ltb _ _ c.if-last-first.false)
