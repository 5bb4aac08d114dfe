-- The list from a boundary of an X.2 is a partial walk, and a route where it stops at a boundary.
use Prim.Native.Nat.{ℕ}
use mathlib.Core.Path.{◌≡◌, refl}
use mathlib.Core.Logic.{⊎_elim}
use mathlib.Core.List.{List, ◌∷◌}
use Rattle.x2_records.specs.declared.Kind.TheVariants.{StartBoundary, EndBoundary}
use Rattle.x2_layout.specs.Layout.{layout_of}
use Rattle.x2_layout.specs.Records.{kind_at}
use Rattle.route_graph.specs.Objects.{view_at, object_at, edge_link}
use Rattle.route_walks.specs.Legal.{Walk, Route}
use Rattle.route_theorems.specs.Asked.{BoundaryHere}
use Rattle.ahead.specs.declared.Stop.{Stop}
use Rattle.ahead.specs.declared.Stop.TheVariants as stop
use Rattle.ahead_theorems.specs.Asked.{objects_of, link_of, LiesAhead}
use Rattle.ahead_theorems.proofs.Legal as legal

-- a boundary's link of index 0 is the one that it is left by
first_edge : (g : List ℕ) (x : ℕ) → BoundaryHere g x → link_of g x 0 ≡ edge_link (objects_of g x)
unfolding object_at view_at
first_edge g x b = ⊎_elim (λ (e : kind_at (layout_of g) x ≡ StartBoundary). rw e refl) (λ (e : kind_at (layout_of g) x ≡ EndBoundary). rw e refl) b.either_kind

-- THEOREM
pub from_boundary : (g : List ℕ) (offset : ℕ) (lies : List ℕ) (objects : List ℕ) (s : Stop) → BoundaryHere g offset → LiesAhead g offset 0 lies objects s
    → Walk (objects_of g) offset 65 (offset ∷ objects)
from_boundary g offset lies objects s b h = legal.from_boundary (objects_of g) lies offset (link_of g offset 0) (first_edge g offset b) objects s h

-- THEOREM
pub route_ahead : (g : List ℕ) (offset : ℕ) (lies : List ℕ) (objects : List ℕ) → BoundaryHere g offset → LiesAhead g offset 0 lies objects stop.Boundary
    → Route (objects_of g) offset 65 (offset ∷ objects)
route_ahead g offset lies objects b h = legal.route_ahead (objects_of g) lies offset (link_of g offset 0) (first_edge g offset b) objects h
