-- The links of X.2 (01, 'Links'): checks 8 and 9. A link names the start of a boundary, turnout, balise, signal or joint, never the
-- record itself, and of balises only the first of its group; every nonzero link is returned by some link of its target, and no two links
-- of one record name the same target. The links of a balise of place above 1 (02, ticket 2) are those of the record directly before it,
-- and no return is due for them.
use Rattle.std.specs.Prelude.{ℕ, Bool, false, not, cond, ◌&&◌, List, [], ◌∷◌, ◌++◌, eqb, leb}
use Rattle.octets.specs.Octets.{num_at}
use Rattle.octets.specs.declared.Width.TheVariants.{Two}
use Rattle.verdict.specs.Facts.{Claim, always, same, both, either, denied, some, test, Fact, fact}
use Rattle.verdict.specs.declared.Reason.TheVariants as reason
use Rattle.verdict.specs.declared.Mark.{Mark}
use Rattle.verdict.specs.declared.Rule.{Rule}
use Rattle.verdict.specs.declared.Rule.TheVariants as rule
use Rattle.rules.specs.Rules.{between}
use Rattle.x2_records.specs.declared.Kind.{Kind}
use Rattle.x2_records.specs.declared.Kind.TheVariants as kind
use Rattle.tables.specs.Table.{bits_of, value_of, field_place}
use Rattle.envelope.specs.Seal.{number_most}
use Rattle.x2_records.specs.Rows as row
use Rattle.x2_records.specs.Records.{link_size, link_places}
use Rattle.x2_layout.specs.declared.Layout.{Layout}
use Rattle.x2_layout.specs.Records.{kind_at, starts, each_record, each_after}

-- the link at a place
abbrev pub link_at : List ℕ → ℕ → ℕ
link_at f p = num_at 2 f p

-- the bits of a balise's group byte that give its place in its group: 0 in the first, which has place 1
abbrev pub rank_bits : List ℕ → ℕ → ℕ
rank_bits f at = bits_of row.balise_rank (value_of f at row.balise_group)

-- ---- 8: the target

-- a record of a kind may be linked to: no siding, and of balises only the first of its group (01: place 1)
abbrev pub linkable : List ℕ → Kind → ℕ → Claim
linkable f kind.StartBoundary at = always
linkable f kind.EndBoundary at = always
linkable f kind.Turnout at = always
linkable f kind.Balise at = same (rank_bits f at) 0
linkable f kind.Signal at = always
linkable f kind.Joint at = always
linkable f kind.Siding at = denied always

-- the record at s is the one that x names, and may be linked to
abbrev pub named : List ℕ → Layout → ℕ → ℕ → Claim
named f l x s = both (same s x) (linkable f (kind_at l s) s)

-- x names the start of a record that may be linked to
unfoldable pub is_target : List ℕ → Layout → ℕ → Claim
is_target f l x = some (starts f l) (named f l x)

-- the same, tested: a link may name x, which is an offset in a file
-- 02: Ticket9.9
unfoldable pub may_name : List ℕ → Layout → ℕ → Bool
may_name f l x = leb x number_most && test (is_target f l x)

-- the link at p of the record at `at` is 0, or names such a record, and not its own
abbrev pub target : List ℕ → Layout → ℕ → ℕ → Fact
target f l at p =
    fact (either (same (link_at f p) 0) (both (denied (same (link_at f p) at)) (is_target f l (link_at f p))))
    (record { reason = reason.Target; start = at; place = p; width = link_size; rule = rule.NamesObject })

abbrev pub targets : List ℕ → Layout → ℕ → List ℕ → List Fact
targets f l at [] = []
targets f l at (p ∷ ps) = target f l at p ∷ targets f l at ps

-- 0 means no link; in a boundary it is 8
abbrev pub linked : List ℕ → Kind → ℕ → List Fact
linked f kind.StartBoundary at = between reason.Target f at (field_place at row.boundary_link) Two 1 number_most ∷ []
linked f kind.EndBoundary at = between reason.Target f at (field_place at row.boundary_link) Two 1 number_most ∷ []
linked f kind.Turnout at = []
linked f kind.Balise at = []
linked f kind.Signal at = []
linked f kind.Joint at = []
linked f kind.Siding at = []

abbrev pub record_targets : List ℕ → Layout → Kind → ℕ → List Fact
record_targets f l k at = linked f k at ++ targets f l at (link_places k at)

unfoldable pub target_facts : List ℕ → Layout → List Fact
target_facts f l = each_record f l (record_targets f l)

-- ---- 9: the return, and no doubled link

-- one of the links at some places names `at`
abbrev pub some_names : List ℕ → List ℕ → ℕ → Claim
some_names f places at = some places (λ q. same (link_at f q) at)

-- a record of kind k at x has a link that names `at`
unfoldable pub links_to : List ℕ → Kind → ℕ → ℕ → Claim
links_to f k x at = some_names f (link_places k x) at

-- the mark of a rule of the link at p, of the record at `at`
abbrev pub return_mark : ℕ → ℕ → Rule → Mark
return_mark at p r = record { reason = reason.Return; start = at; place = p; width = link_size; rule = r }

-- the link at p of the record at `at` is 0, or is returned by some link of its target
abbrev pub back : List ℕ → Layout → ℕ → ℕ → Fact
back f l at p =
    fact (either (same (link_at f p) 0) (links_to f (kind_at l (link_at f p)) (link_at f p) at))
    (return_mark at p rule.IsReturned)

-- the link at p is 0, or is not the one at q
abbrev pub distinct : List ℕ → ℕ → ℕ → ℕ → Fact
distinct f at p q =
    fact (either (same (link_at f p) 0) (denied (same (link_at f q) (link_at f p))))
    (return_mark at p (rule.NotDoubled q))

abbrev pub distinct_from : List ℕ → ℕ → ℕ → List ℕ → List Fact
distinct_from f at p [] = []
distinct_from f at p (q ∷ qs) = distinct f at p q ∷ distinct_from f at p qs

-- each link is returned, and is none of the record's links before it
abbrev pub returns : List ℕ → Layout → ℕ → List ℕ → List ℕ → List Fact
returns f l at before [] = []
returns f l at before (p ∷ ps) = back f l at p ∷ (distinct_from f at p before ++ returns f l at (before ++ (p ∷ [])) ps)

-- the link at p of the record at `at` is the link at q of the record before it
abbrev pub same_link : List ℕ → ℕ → ℕ → ℕ → Fact
same_link f at p q = fact (same (link_at f p) (link_at f q)) (return_mark at p (rule.SameAs p q link_size))

-- both links of a balise are those of the record at `before`
-- 02: Ticket2.3
abbrev pub same_links : List ℕ → ℕ → ℕ → List Fact
same_links f before at =
    same_link f at (field_place at row.balise_previous) (field_place before row.balise_previous)
    ∷ same_link f at (field_place at row.balise_next) (field_place before row.balise_next)
    ∷ []

-- a record of a kind is a balise of place above 1
abbrev pub is_member : List ℕ → Kind → ℕ → Bool
is_member f kind.StartBoundary at = false
is_member f kind.EndBoundary at = false
is_member f kind.Turnout at = false
is_member f kind.Balise at = not (eqb (rank_bits f at) 0)
is_member f kind.Signal at = false
is_member f kind.Joint at = false
is_member f kind.Siding at = false

-- the links of a record of a kind, after the one at `before`
-- 02: Ticket2.4
abbrev pub record_returns : List ℕ → Layout → ℕ → Kind → ℕ → List Fact
record_returns f l before k at = cond (is_member f k at) (same_links f before at) (returns f l at [] (link_places k at))

unfoldable pub return_facts : List ℕ → Layout → List Fact
return_facts f l = each_after f l (record_returns f l)
