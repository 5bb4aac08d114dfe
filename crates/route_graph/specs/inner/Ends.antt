-- The object at a place, told by three numbers of a layout: where the boundaries, the turnouts and the plain objects end. For every layout it
-- is the object that the layout tells (`same_objects` of proofs/Ends).
use Rattle.std.specs.Prelude.{ℕ, max, cond, List, ltb}
use Rattle.x2_records.specs.declared.Kind.{Kind}
use Rattle.x2_records.specs.declared.Kind.TheVariants as kind
use Rattle.x2_layout.specs.declared.Layout.{Layout}
use Rattle.route_graph.specs.declared.Object.{Object}
use Rattle.route_graph.specs.declared.regions.Ends.{Ends}
use Rattle.route_graph.specs.Objects.{view_at}

unfoldable pub ends_of : Layout → Ends
ends_of l = record {
  boundaries = max l.ends l.turnouts;
  turnouts = l.balises;
  plain = max (max l.signals l.joints) l.sidings;
}

-- both kinds of boundary have their link at the same place, and so have all plain objects
unfoldable pub kind_in : Ends → ℕ → Kind
kind_in e at =
    cond (ltb at e.boundaries) kind.EndBoundary
    (cond (ltb at e.turnouts) kind.Turnout
    (cond (ltb at e.plain) kind.Balise kind.Siding))

unfoldable pub object_in : List ℕ → Ends → ℕ → Object
object_in f e at = view_at f (kind_in e at) at
