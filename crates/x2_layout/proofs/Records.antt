-- No record has fewer bytes than a boundary, so that a walk goes on.
use Prim.Native.Nat.{ℕ, ◌≤◌, ◌<◌}
use mathlib.Core.List.{List}
use native.Mathlib.Omega.{arith}
use Rattle.x2_records.specs.declared.Kind.{Kind}
use Rattle.x2_records.specs.declared.Kind.TheVariants.{StartBoundary, EndBoundary, Turnout, Balise, Signal, Joint, Siding}
use Rattle.x2_records.specs.Places.{boundary_size}
use Rattle.x2_layout.specs.declared.Layout.{Layout}
use Rattle.x2_layout.specs.Facts.{balise_bytes}
use Rattle.x2_layout.specs.Records.{kind_at, size_of, size_at}

pub balise_bytes_pos : (f : List ℕ) (at : ℕ) → 0 < balise_bytes f at
unfolding balise_bytes
balise_bytes_pos f at = omega arith

pub size_at_least : (f : List ℕ) (l : Layout) (at : ℕ) → boundary_size ≤ size_at f l at
unfolding size_of balise_bytes
size_at_least f l at = by_kind (kind_at l at)
  where
    by_kind : (k : Kind) → boundary_size ≤ size_of f k at
    by_kind StartBoundary = omega arith
    by_kind EndBoundary = omega arith
    by_kind Turnout = omega arith
    by_kind Balise = omega arith
    by_kind Signal = omega arith
    by_kind Joint = omega arith
    by_kind Siding = omega arith

pub size_at_pos : (f : List ℕ) (l : Layout) (at : ℕ) → 0 < size_at f l at
size_at_pos f l at = omega (arith, size_at_least f l at)
