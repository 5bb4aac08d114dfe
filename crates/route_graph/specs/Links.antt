-- What the links of an accepted file say (01, 'Links'), over what stands at a place and a predicate of places, `Good`: those that a link
-- may name. The routes and all that follows from the links rest on this record alone.
use Rattle.std.specs.Prelude.{ℕ, ◌≡◌}
use mathlib.Core.List.{List, [], ◌∷◌, Memᴰ}
use Rattle.route_graph.specs.declared.Object.{Object}
use Rattle.route_graph.specs.Objects.{links_of}

-- no two links name the same target; 0 names none
abbrev pub Single : List ℕ → Type 0
Single [] = Unit {0}
Single (x ∷ xs) = ((y : ℕ) → Memᴰ y xs → ¬ (y ≡ 0) → ¬ (x ≡ y)) × Single xs

pub record Joined (v : ℕ → Object) (Good : ℕ → Type 0) : Type 0 where
  -- no object stands at 0, which is no link
  pub placed : (at : ℕ) → Good at → ¬ (at ≡ 0)
  -- a link names a place that a link may name
  pub target : (at x : ℕ) → Good at → Memᴰ x (links_of (v at)) → ¬ (x ≡ 0) → Good x
  -- a link is returned by some link of its target
  pub returned : (at x : ℕ) → Good at → Memᴰ x (links_of (v at)) → ¬ (x ≡ 0) → Memᴰ at (links_of (v x))
  -- no two links of one object name the same target
  pub single : (at : ℕ) → Good at → Single (links_of (v at))
