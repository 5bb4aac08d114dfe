-- THEOREM: the place of every X.2 verdict is below the bound, whatever the file is. One of more than 65,535 bytes is refused for its length, at
-- place 0. In another every place is in the header, whose two counts are at most 255 by the first facts of the layout, or is where the
-- boundaries end, or stands in a record, which starts before End.
use Prim.Native.Nat.{ℕ, suc, zero, ◌+◌, ◌-◌, ◌*◌, ◌≤◌, ◌<◌}
use mathlib.Core.Path.{◌≡◌, refl}
use mathlib.Core.List.{List, [], ◌∷◌, ◌++◌, flat_map}
use lib.Dec.{ltb, eqb}
use lib.ListN.{length}
use native.Mathlib.Omega.{arith}
use Rattle.octets.specs.Octets.{num_at}
use Rattle.verdict.specs.Facts.{AllHold, Fact}
use Rattle.verdict.specs.Reasons.{place_in}
use Rattle.verdict.specs.Walk.{starts_from}
use Rattle.envelope.specs.Seal.{most_length, seal_facts}
use Rattle.x2_records.specs.declared.Kind.{Kind}
use Rattle.x2_records.specs.declared.Kind.TheVariants as kind
use Rattle.tables.specs.Rows.{table_facts}
use Rattle.x2_records.specs.Places.{boundary_size, balise_size, balise_message}
use Rattle.x2_records.specs.Rows.{balise_table}
use Rattle.x2_records.specs.Records.{link_places}
use Rattle.x2_layout.specs.declared.Layout.{Layout}
use Rattle.x2_layout.specs.Places.{start_count_at, start_entries_at, end_count_at, end_entries_at, groups_at, yard_count}
use Rattle.x2_layout.specs.Layout.{layout_of, yard_offsets}
use Rattle.x2_layout.specs.inner.Bounds.{count_most}
use Rattle.x2_layout.specs.declared.Made.{Made}
use Rattle.x2_layout.specs.declared.Made.TheVariants.{Fixed, Balises}
use Rattle.x2_layout.specs.declared.Offsets.{Offsets}
use Rattle.x2_layout.specs.Groups.{Group, group_in, groups_from, group_start, next_start, next_field, group_end, group_layout, balise_bytes, balise_layout, walk_layout, made_facts, one_group, group_facts}
use Rattle.x2_layout.specs.Facts.{count_layout, indexes, offset_layout, offsets_layout, groups_in, layout_facts}
use Rattle.x2_layout.specs.Records.{kind_at, size_at, starts, record_before}
use Rattle.x2_layout.proofs.Grouped.{one_inside}
use Rattle.x2_layout.proofs.Obeys.{layout_obeyed}
use Rattle.x2_layout.proofs.Walks.{starts_between, index_iff}
use Rattle.x2_fields.specs.Fields.{header_fields, entry_fields, entries_fields, record_fields, field_facts}
use Rattle.x2_kinds.specs.KindFields.{size_byte_of, last_byte, message_end, message_fields, kind_fields}
use Rattle.x2_fields.specs.Agreement.{entry_agrees, entries_agree, kind_agrees, record_agrees, agreement_facts}
use Rattle.x2_links.specs.Links.{record_targets, target_facts, returns, same_links, is_member, record_returns, return_facts}
use Rattle.x2_verdict.specs.Facts.{file_type, newest_version, record_facts, check_facts, facts, verdict_of}
use Rattle.places.specs.Places.{place_over, PlacesBelow}
use Rattle.places.proofs.Lists.{below_append, below_both, below_each, below_if, fault_below}

-- ---- the groups of the layout, whose offsets stand in the header

module _ (f : List ℕ) (last end : ℕ) (most : end ≤ most_length) where
  -- each balise of a group starts before the group's end, which is not over End
  made_below : (field until next : ℕ) → field < place_over → until ≤ most_length → (m : Made) → PlacesBelow place_over (made_facts f field until next m)
  unfolding made_facts walk_layout
  made_below field until next near inside (Fixed size) = omega arith
  made_below field until next near inside Balises =
      below_each place_over (balise_layout f until next) (starts_from (balise_bytes f) until (num_at 2 f field)) (λ at m.
      let before = (starts_between (balise_bytes f) until at (num_at 2 f field) m).below in
      omega arith)

  one_below : (due until next : ℕ) (g : Group) → g.field < place_over → PlacesBelow place_over (one_group f end due until next g)
  unfolding one_group AllHold
  one_below due until next g near =
      let group = group_layout f g.field due until next end in
      let made = made_facts f g.field until next g.made in
      below_if place_over (eqb (group_start f g) 0) [] (group ++ made) tt
      (below_append place_over group made (omega arith) (λ h. made_below g.field until next near (omega (arith, h.1.1.0)) g.made))

  groups_below : (o : Offsets) (n i due : ℕ) → o.base + 2 * (i + n) < place_over → due ≤ most_length → PlacesBelow place_over (group_facts f last end due (groups_from o n i))
  unfolding group_facts groups_from
  groups_below o zero i due near before = omega arith
  groups_below o (suc n) i due near before =
      let rest = groups_from o n (i + 1) in
      let g = group_in o i in
      let next = next_start f end rest in
      let until = group_end (group_start f g) due next in
      below_append place_over (one_group f end due until (next_field f end rest) g) (group_facts f last end until rest) (one_below due until (next_field f end rest) g (omega arith)) (λ h.
      groups_below o n (i + 1) until (omega arith) (one_inside f end due next (next_field f end rest) g h most_length before most))

-- ---- a record of a kind, which starts before End

module _ (f : List ℕ) (at : ℕ) (inside : at < most_length) where
  fields-of : (k : Kind) → PlacesBelow place_over (kind_fields f k at)
  unfolding kind_fields message_fields
  fields-of kind.StartBoundary = omega arith
  fields-of kind.EndBoundary = omega arith
  fields-of kind.Turnout = omega arith
  fields-of kind.Balise =
      let message = last_byte f at (at + balise_message) (size_byte_of f at - balise_size) message_end ∷ [] in
      below_both place_over (table_facts f at balise_table) (message_fields f at) (omega arith) (below_if place_over (ltb balise_size (size_byte_of f at)) message [] (omega arith) tt)
  fields-of kind.Signal = omega arith
  fields-of kind.Joint = omega arith
  fields-of kind.Siding = omega arith

  module _ (l : Layout) where
    -- after the record at b
    agreement_of : (b : ℕ) (k : Kind) → PlacesBelow place_over (kind_agrees f l b k at)
    unfolding kind_agrees
    agreement_of b kind.StartBoundary = tt
    agreement_of b kind.EndBoundary = tt
    agreement_of b kind.Turnout = tt
    agreement_of b kind.Balise = omega arith
    agreement_of b kind.Signal = tt
    agreement_of b kind.Joint = tt
    agreement_of b kind.Siding = tt

    targets_of : (k : Kind) → PlacesBelow place_over (record_targets f l k at)
    targets_of kind.StartBoundary = omega arith
    targets_of kind.EndBoundary = omega arith
    targets_of kind.Turnout = omega arith
    targets_of kind.Balise = omega arith
    targets_of kind.Signal = omega arith
    targets_of kind.Joint = omega arith
    targets_of kind.Siding = tt

    links_of : (k : Kind) → PlacesBelow place_over (returns f l at [] (link_places k at))
    links_of kind.StartBoundary = omega arith
    links_of kind.EndBoundary = omega arith
    links_of kind.Turnout = omega arith
    links_of kind.Balise = omega arith
    links_of kind.Signal = omega arith
    links_of kind.Joint = omega arith
    links_of kind.Siding = tt

    returns_of : (b : ℕ) (k : Kind) → PlacesBelow place_over (record_returns f l b k at)
    returns_of b k = below_if place_over (is_member f k at) (same_links f b at) (returns f l at [] (link_places k at)) (omega arith) (links_of k)

-- what is asked of every record: each starts before End
pub records_below :
    (f : List ℕ) (l : Layout) (most : l.end ≤ most_length) (g : ℕ → List Fact) → ((at : ℕ) → at < most_length → PlacesBelow place_over (g at)) → PlacesBelow place_over (flat_map g (starts f l))
records_below f l most g h = below_each place_over g (starts f l) (λ at m. h at (let below = (starts_between (size_at f l) l.end at l.starts m).below in omega arith))

-- ---- check by check

module _ (f : List ℕ) (l : Layout) (most : l.end ≤ most_length) where
  -- what is asked of the entry of each boundary in the header
  entries_below : (g : ℕ → List Fact) (count : ℕ) → ((i : ℕ) → i < count → PlacesBelow place_over (g i)) → PlacesBelow place_over (flat_map g (indexes count))
  entries_below g count h = below_each place_over g (indexes count) (λ i m. h i ((index_iff count i).0 m))

  offsets_below : (entries due count : ℕ) → entries ≤ most_length → count ≤ count_most → PlacesBelow place_over (offsets_layout f entries due count)
  unfolding offsets_layout
  offsets_below entries due count near small = entries_below (offset_layout f entries due) count (λ i h. omega arith)

  module _ (few : l.n ≤ count_most) (few' : l.k ≤ count_most) where
    fields_below : PlacesBelow place_over (field_facts f l)
    unfolding field_facts entries_fields
    fields_below =
        let one = entries_fields f start_entries_at l.n in
        let two = entries_fields f (end_entries_at l.n) l.k in
        let each = flat_map (record_fields f l) (starts f l) in
        let p = entries_below (entry_fields f start_entries_at) l.n (λ i h. omega arith) in
        let q = entries_below (entry_fields f (end_entries_at l.n)) l.k (λ i h. omega arith) in
        let r = records_below f l most (record_fields f l) (λ at h. fields-of f at h (kind_at l at)) in
        below_both place_over (header_fields f) (one ++ (two ++ each)) (omega arith) (below_both place_over one (two ++ each) p (below_both place_over two each q r))

    agreement_below : PlacesBelow place_over (agreement_facts f l)
    unfolding agreement_facts entries_agree
    agreement_below =
        let one = entries_agree f start_entries_at l.starts l.n in
        let two = entries_agree f (end_entries_at l.n) l.ends l.k in
        let each = flat_map (record_agrees f l) (starts f l) in
        let p = entries_below (entry_agrees f start_entries_at l.starts) l.n (λ i h. omega arith) in
        let q = entries_below (entry_agrees f (end_entries_at l.n) l.ends) l.k (λ i h. omega arith) in
        let r = records_below f l most (record_agrees f l) (λ at h. agreement_of f at h l (record_before f l at) (kind_at l at)) in
        below_both place_over one (two ++ each) p (below_both place_over two each q r)

    checks_below : PlacesBelow place_over (record_facts f l)
    unfolding record_facts target_facts return_facts
    checks_below =
        let t = records_below f l most (λ at. record_targets f l (kind_at l at) at) (λ at h. targets_of f at h l (kind_at l at)) in
        let r = records_below f l most (λ at. record_returns f l (record_before f l at) (kind_at l at) at) (λ at h. returns_of f at h l (record_before f l at) (kind_at l at)) in
        below_both place_over (field_facts f l) (agreement_facts f l ++ (target_facts f l ++ return_facts f l)) fields_below
        (below_both place_over (agreement_facts f l) (target_facts f l ++ return_facts f l) agreement_below (below_both place_over (target_facts f l) (return_facts f l) t r))

  -- ---- the layout, whose counts come first

  layout_below : l.n ≡ num_at 1 f start_count_at → l.k ≡ num_at 1 f (end_count_at l.n) → PlacesBelow place_over (layout_facts f l)
  unfolding layout_facts AllHold
  layout_below is-n is_k =
      let one = offsets_layout f start_entries_at l.starts l.n in
      let two = offsets_layout f (end_entries_at l.n) l.ends l.k in
      let rest = group_facts f (l.turnouts - boundary_size) l.end l.turnouts (groups_in l) in
      below_append place_over (count_layout f l) (one ++ (two ++ rest)) (omega arith) (λ count.
      let few : l.n ≤ count_most = omega (arith, is-n, count.0) in
      let few' : l.k ≤ count_most = omega (arith, is_k, count.1.1.0) in
      let p = offsets_below start_entries_at l.starts l.n (omega arith) few in
      let q = offsets_below (end_entries_at l.n) l.ends l.k (omega arith) few' in
      let room = count.1.1.1.0 in
      let r = groups_below f (l.turnouts - boundary_size) l.end most (yard_offsets (groups_at l.n l.k) l.end) yard_count 0 l.turnouts (omega arith) (omega arith) in
      below_both place_over one (two ++ rest) p (below_both place_over two rest q r))

-- ---- the file

module _ (f : List ℕ) where
  starts_are : (layout_of f).n ≡ num_at 1 f start_count_at
  unfolding layout_of
  starts_are = refl

  ends_are : (layout_of f).k ≡ num_at 1 f (end_count_at (layout_of f).n)
  unfolding layout_of
  ends_are = refl

  pub stop_most : length f ≤ most_length → (layout_of f).end ≤ most_length
  unfolding layout_of
  stop_most most = omega arith

  facts_below : PlacesBelow place_over (facts f)
  unfolding facts check_facts
  facts_below = (
    omega arith,
    λ h.
        let l = layout_of f in
        let most = stop_most h.1 in
        let after = below_append place_over (layout_facts f l) (record_facts f l) (layout_below f l most starts_are ends_are) (λ laid.
        let o = (layout_obeyed f l).0 laid in
        checks_below f l most (omega (arith, starts_are, o.start_count)) (omega (arith, ends_are, o.end_count)))
        in
        below_both place_over (seal_facts f file_type newest_version) (layout_facts f l ++ record_facts f l) (omega arith) after,
  )

  pub x2_place : place_in (verdict_of f) < place_over
  x2_place = fault_below place_over (omega arith) (facts f) facts_below
