-- What the lister reads of a record is what the record's own reading gives: an object of the graph as a decoded record's links.
use Rattle.x2_records.specs.declared.Record.{Record}
use Rattle.x2_records.specs.declared.Record.TheVariants as record_of
use Rattle.route_graph.specs.declared.Object.{Object}
use Rattle.route_graph.specs.declared.Object.TheVariants.{Boundary, Plain, Turnout, Nothing}

-- 01: X2.links.1
-- 02: Ticket9.8
abbrev pub object_of : Record → Object
object_of (record_of.StartBoundary b) = Boundary b.link
object_of (record_of.EndBoundary b) = Boundary b.link
object_of (record_of.Turnout t) = Turnout (record { number = t.number; front = t.front; normal = t.normal; reverse = t.reverse })
object_of (record_of.Balise b) = Plain (record { previous = b.previous; next = b.next })
object_of (record_of.Signal s) = Plain (record { previous = s.previous; next = s.next })
object_of (record_of.Joint j) = Plain (record { previous = j.previous; next = j.next })
object_of (record_of.Siding s) = Nothing
