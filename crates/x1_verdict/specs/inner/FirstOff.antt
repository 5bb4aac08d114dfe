-- How the code finds the point of a track that is at fault; no reader of the rule need know it.
use Rattle.std.specs.Prelude.{ℕ, ◌+◌, ◌^◌, ◌≤◌, ◌<◌, ◌≡◌, false}
use mathlib.Core.List.{List, flat_map}
use Rattle.verdict.specs.Facts.{Fact, all_tests, first_fault}
use Rattle.verdict.specs.Walk.{starts_from}
use Rattle.x1_layout.specs.Layout.{first_of, last_of}
use Rattle.x1_verdict.specs.declared.agreement.Frame.{Frame}
use Rattle.x1_verdict.specs.Agreement.{FrameOf, point_agrees, points_of}

-- the facts of the points of the entry at e, from p on
abbrev pub points_from : List ℕ → ℕ → ℕ → ℕ → List Fact
points_from f size e p = flat_map (point_agrees f size e) (starts_from (λ _. size) (last_of f e + size) p)

-- p stands after the first point of the entry at e and before its last, which are in t
pub record Later (f : List ℕ) (size e : ℕ) (t : Frame) (p : ℕ) : Type 0 where
  pub frame : FrameOf f e t
  pub after : t.first + size ≤ p
  pub before : p < t.last

-- the points of the entry at e after its first one and before p obey, and the one at p does not, where it stands before the last
pub record LaterOff (f : List ℕ) (size e p : ℕ) : Type 0 where
  pub before : first_fault (points_from f size e p) ≡ first_fault (points_from f size e (first_of f e + size))
  pub here : p < last_of f e → all_tests (point_agrees f size e p) ≡ false
  pub small : p < 2 ^ 17

-- the points of the entry at e before p obey, and the one at p does not, where there is one
pub record FirstOff (f : List ℕ) (size e p : ℕ) : Type 0 where
  pub before : first_fault (points_from f size e p) ≡ first_fault (flat_map (point_agrees f size e) (points_of f size e))
  pub here : p < last_of f e + size → all_tests (point_agrees f size e p) ≡ false
