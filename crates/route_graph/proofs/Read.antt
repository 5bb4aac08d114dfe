-- What the lister reads of a record is what the record's own reading gives.
use Prim.Native.Nat.{ℕ}
use mathlib.Core.Path.{◌≡◌, refl}
use mathlib.Core.List.{List}
use Rattle.x2_records.specs.declared.Kind.{Kind}
use Rattle.x2_records.specs.declared.Kind.TheVariants as kind
use Rattle.x2_records.specs.Records.{record_at}
use Rattle.x2_records.specs.Tables.{boundary_at, turnout_at, balise_at, signal_at, joint_at}
use Rattle.x2_layout.specs.declared.Layout.{Layout}
use Rattle.x2_layout.specs.Records.{kind_at}
use Rattle.route_graph.specs.Objects.{view_at, object_at}
use Rattle.route_graph.specs.Read.{object_of}

view_read : (f : List ℕ) (k : Kind) (at : ℕ) → view_at f k at ≡ object_of (record_at f k at)
unfolding view_at record_at boundary_at turnout_at balise_at signal_at joint_at
view_read f kind.StartBoundary at = refl
view_read f kind.EndBoundary at = refl
view_read f kind.Turnout at = refl
view_read f kind.Balise at = refl
view_read f kind.Signal at = refl
view_read f kind.Joint at = refl
view_read f kind.Siding at = refl

-- THEOREM
pub object_read : (f : List ℕ) (l : Layout) (at : ℕ) → object_at f l at ≡ object_of (record_at f (kind_at l at) at)
unfolding object_at
object_read f l at = view_read f (kind_at l at) at
