-- The record of a kind that starts at a place. The kind follows from the place in the file, and is given.
use Rattle.std.specs.Prelude.{ℕ, List, [], ◌∷◌}
use Rattle.x2_records.specs.declared.Kind.{Kind}
use Rattle.x2_records.specs.declared.Kind.TheVariants as kind
use Rattle.x2_records.specs.declared.Record.{Record}
use Rattle.x2_records.specs.declared.Record.TheVariants as is
use Rattle.x2_records.specs.declared.Links.{Links}
use Rattle.x2_records.specs.declared.Links.TheVariants.{Nothing, One, Two, Three}
use Rattle.tables.specs.Table.{links_in}
use Rattle.x2_records.specs.Places as place
use Rattle.x2_records.specs.Rows.{table_of}
use Rattle.x2_records.specs.Tables.{boundary_at, turnout_at, balise_at, signal_at, joint_at, siding_at}

-- how many bytes a record of a kind has; a balise's message comes on top
-- 01: X2.layout.2, Form.2
abbrev pub fixed_size : Kind → ℕ
fixed_size kind.StartBoundary = place.boundary_size
fixed_size kind.EndBoundary = place.boundary_size
fixed_size kind.Turnout = place.turnout_size
fixed_size kind.Balise = place.balise_size
fixed_size kind.Signal = place.signal_size
fixed_size kind.Joint = place.joint_size
fixed_size kind.Siding = place.siding_size

-- how many bytes a link has
abbrev pub link_size : ℕ
link_size = 2

-- where the links of a record stand, in the order of its fields
-- 01: X2.links.1
abbrev pub link_places : Kind → ℕ → List ℕ
link_places k at = links_in at (table_of k)

-- the same as a value: no record has more than three links
abbrev pub as_links : List ℕ → Links
as_links [] = Nothing
as_links (p ∷ []) = One p
as_links (p ∷ q ∷ []) = Two p q
as_links (p ∷ q ∷ r ∷ ps) = Three p q r

abbrev pub link_fields : Kind → ℕ → Links
link_fields k at = as_links (link_places k at)

-- and the list of such a value
abbrev pub places_in : Links → List ℕ
places_in Nothing = []
places_in (One p) = p ∷ []
places_in (Two p q) = p ∷ q ∷ []
places_in (Three p q r) = p ∷ q ∷ r ∷ []

-- what the bytes at a place mean, read as a record of a kind
-- 01: X2.layout.3, Form.8
unfoldable pub record_at : List ℕ → Kind → ℕ → Record
record_at f kind.StartBoundary at = is.StartBoundary (boundary_at f at)
record_at f kind.EndBoundary at = is.EndBoundary (boundary_at f at)
record_at f kind.Turnout at = is.Turnout (turnout_at f at)
record_at f kind.Balise at = is.Balise (balise_at f at)
record_at f kind.Signal at = is.Signal (signal_at f at)
record_at f kind.Joint at = is.Joint (joint_at f at)
record_at f kind.Siding at = is.Siding (siding_at f at)
