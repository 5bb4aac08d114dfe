-- What stands at a place of an X.2 file, as far as its links go (01, 'Links'): a boundary has one, a turnout three (front, normal,
-- reverse), a balise, signal or joint two (previous, next), a siding none. The kind follows from the region that the place lies in.
use Rattle.std.specs.Prelude.{ℕ, ◌-◌, ◌%◌, Bool, true, false, ◌&&◌, List, [], ◌∷◌, eqb, leb, ltb}
use Rattle.octets.specs.Octets.{num_at}
use Rattle.tables.specs.Table.{field_place}
use Rattle.x2_records.specs.declared.Kind.{Kind}
use Rattle.x2_records.specs.declared.Links.{Links}
use Rattle.x2_records.specs.declared.Links.TheVariants as links
use Rattle.x2_records.specs.Records.{link_fields}
use Rattle.x2_records.specs.Places as place
use Rattle.x2_records.specs.Rows as row
use Rattle.x2_layout.specs.declared.Layout.{Layout}
use Rattle.x2_layout.specs.Records.{kind_at}
use Rattle.route_graph.specs.declared.Object.{Object}
use Rattle.route_graph.specs.declared.Object.TheVariants.{Boundary, Plain, Turnout, Nothing}

-- the link at a place
abbrev pub link_at : List ℕ → ℕ → ℕ
link_at f p = num_at 2 f p

-- the object at a place whose links stand at some places, and of a turnout its number too
-- 01: X2.links.1
abbrev pub view_of : List ℕ → ℕ → Links → Object
view_of f at links.Nothing = Nothing
view_of f at (links.One p) = Boundary (link_at f p)
view_of f at (links.Two p q) = Plain (record { previous = link_at f p; next = link_at f q })
view_of f at (links.Three p q r) = Turnout (record {
  number = num_at 1 f (field_place at row.turnout_number);
  front = link_at f p;
  normal = link_at f q;
  reverse = link_at f r;
})

-- the record of a kind that starts at a place
unfoldable pub view_at : List ℕ → Kind → ℕ → Object
view_at f k at = view_of f at (link_fields k at)

-- the object that starts at a place
unfoldable pub object_at : List ℕ → Layout → ℕ → Object
object_at f l at = view_at f (kind_at l at) at

-- the links of an object, in the order of its fields; 0 is none
abbrev pub links_of : Object → List ℕ
links_of (Boundary link) = link ∷ []
links_of (Plain p) = p.previous ∷ p.next ∷ []
links_of (Turnout t) = t.front ∷ t.normal ∷ t.reverse ∷ []
links_of Nothing = []

abbrev pub is_boundary : Object → Bool
is_boundary (Boundary link) = true
is_boundary (Plain p) = false
is_boundary (Turnout t) = false
is_boundary Nothing = false

-- the link by which a boundary is left
-- 01: Routes.9
abbrev pub edge_link : Object → ℕ
edge_link (Boundary link) = link
edge_link (Plain p) = 0
edge_link (Turnout t) = 0
edge_link Nothing = 0

-- the highest offset in a file
abbrev pub offset_most : ℕ
offset_most = 65535

-- a boundary starts at x: whole boundaries stand between the header's end and x
unfoldable pub boundary_starts : Layout → ℕ → Bool
boundary_starts l x = leb x offset_most && (leb l.starts x && (ltb x l.turnouts && eqb ((x - l.starts) % place.boundary_size) 0))
