-- The first pass over one balise: from what its bytes are to what is asked of its fields, of its group and of its message, and then one turn.
use Prim.Native.Nat.{ℕ, ◌+◌, ◌-◌, ◌/◌, ◌%◌, ◌≤◌, ◌<◌}
use mathlib.Core.Path.{◌≡◌, ◌∙◌, refl, sym, ap, subst}
use mathlib.Core.Bool.{Bool, true, false}
use mathlib.Core.Logic.{◌⊎◌, inl, inr, ⊎_elim}
use mathlib.Core.List.{List, [], ◌∷◌}
use native.Mathlib.Omega.{arith}
use lib.Dec.{eqb}
use lib.ListN.{get_or, set}
use lib.Seq.{set-get_or}
use borrow.Author.Tests.{eqb-true, eqb-false, eq-eqb}
use Rattle.octets.specs.Octets.{num_at}
use Rattle.verdict.specs.Facts.{Holds, AllHold, all_tests}
use Rattle.verdict.proofs.Facts.{tests_then}
use Rattle.verdict.proofs.Orders.{le-or-lt}
use Rattle.tables.specs.Rows.{table_facts, HasParts, RowObeys}
use Rattle.x2_records.specs.declared.Kind.{Kind}
use Rattle.x2_records.specs.declared.Kind.TheVariants.{Balise}
use Rattle.x2_records.specs.Places.{balise_size}
use Rattle.x2_records.specs.Rows.{balise_middle, balise_group, balise_table}
use Rattle.x2_records.specs.Tables.{rank_of, group_count_of}
use Rattle.x2_layout.specs.declared.Layout.{Layout}
use Rattle.x2_layout.specs.Facts.{balise_bytes}
use Rattle.x2_layout.specs.Records.{size_of, IsSize}
use Rattle.x2_layout.specs.inner.Bounds.{place_most, Bounded}
use Rattle.x2_kinds.specs.KindFields.{message_end, size_byte_of, message_fields, kind_fields}
use Rattle.x2_kinds.proofs.Checks.{message_tested}
use Rattle.x2_fields.specs.Agreement.{group_byte_of, rank_in_count, goes_before, in_sequence, kind_agrees}
use Rattle.x2_links.specs.inner.Marks.{cell, mark_if}
use Rattle.x2_verdict.specs.inner.Passes.{Sort, Passing}
use Rattle.x2_verdict.specs.inner.Balises.{leading, FixedObeys, Preceded, GroupObeys, MessageObeys}
use Rattle.x2_verdict.proofs.Linked.{all_tests_lem}
use Rattle.x2_verdict.proofs.Passes.{passing_over}

-- ---- numbers of several bytes, by some of their bytes

module _ (f : List ℕ) (p : ℕ) (bytes : (i : ℕ) → get_or f i 0 < 256) where
  -- three bytes of which one is not 0xFF
  pub three_below :
      (num_at 1 f p ≡ 0xFF → num_at 1 f (p + 1) ≡ 0xFF → num_at 1 f (p + 2) ≡ 0xFF → ⊥) → num_at 3 f p ≤ 0xFFFFFE
  unfolding num_at
  three_below other =
      let low = bytes p in
      let middle = bytes (p + 1) in
      let high = bytes (p + 1 + 1) in
      let there : p + 1 + 1 ≡ p + 2 = omega arith in
      ⊎_elim (λ (h : num_at 3 f p ≤ 0xFFFFFE). h)
      (λ (h : 0xFFFFFE < num_at 3 f p).
      let last : num_at 1 f (p + 1 + 1) ≡ 0xFF = omega arith in
      absurd (other (omega arith) (omega arith) (subst (λ (i : ℕ). num_at 1 f i ≡ 0xFF) there last)))
      (le-or-lt (num_at 3 f p) 0xFFFFFE)

  -- four bytes whose highest is below 0x80
  pub four_below : num_at 1 f (p + 3) < 0x80 → num_at 4 f p ≤ 0x7FFFFFFF
  unfolding num_at
  four_below h =
      let first = bytes p in
      let second = bytes (p + 1) in
      let third = bytes (p + 1 + 1) in
      let there : p + 3 ≡ p + 1 + 1 + 1 = omega arith in
      let last = subst (λ (i : ℕ). num_at 1 f i < 0x80) there h in
      omega arith

-- ---- the attribute

pub attribute_among : (x : ℕ) → x % 64 ≤ 1 → 0x40 ≤ x → x < 0xC0 → (x ≡ 0x40) ⊎ ((x ≡ 0x41) ⊎ ((x ≡ 0x80) ⊎ (x ≡ 0x81)))
attribute_among x nature low high =
    ⊎_elim
    (λ (h : x ≤ 0x7F). ⊎_elim (λ (g : x ≤ 0x40). inl (omega arith)) (λ (g : 0x40 < x). inr (inl (omega arith))) (le-or-lt x 0x40))
    (λ (h : 0x7F < x). ⊎_elim (λ (g : x ≤ 0x80). inr (inr (inl (omega arith)))) (λ (g : 0x80 < x). inr (inr (inr (omega arith)))) (le-or-lt x 0x80))
    (le-or-lt x 0x7F)

-- ---- the group byte

-- nothing below the count: middle and rank are 0
lead_parts : (g : ℕ) → g % 32 ≡ 0 → (g / 8 % 4 ≡ 0) × (g / 1 % 8 ≡ 0)
lead_parts g h = (omega arith, omega arith)

-- where the middle is 0, nothing below the count is the first rank
lead_rank : (g : ℕ) → g / 8 % 4 ≡ 0 → eqb (g % 32) 0 ≡ eqb (g / 1 % 8) 0
lead_rank g middle = go (eqb (g % 32) 0) refl (eqb (g / 1 % 8) 0) refl
  where
    go : (s : Bool) → eqb (g % 32) 0 ≡ s → (t : Bool) → eqb (g / 1 % 8) 0 ≡ t → eqb (g % 32) 0 ≡ eqb (g / 1 % 8) 0
    go true d true e = d ∙ sym e
    go true d false e = absurd (eqb-false (g / 1 % 8) 0 e (lead_parts g (eqb-true (g % 32) 0 d)).1)
    go false d true e =
        let z = eqb-true (g / 1 % 8) 0 e in
        let low : g / 8 / 4 ≤ g / 32 = omega arith in
        let high : g / 32 ≤ g / 8 / 4 = omega arith in
        absurd (eqb-false (g % 32) 0 d (omega arith))
    go false d false e = d ∙ sym e

-- a balise that is the first of its group
pub lead_right : (f : List ℕ) (from before at : ℕ) → leading f at ≡ true → GroupObeys f from before at
lead_right f from before at e =
    let none = lead_parts (group_byte_of f at) (eqb-true (group_byte_of f at % 32) 0 e) in
    record { middle = ((omega arith, omega (arith, none.0)), tt); rank = omega (arith, none.1); sequence = inl (omega (arith, none.1)) }

-- another one; g and h are the group bytes of the balise and of the one before it
pub member_right :
    (f : List ℕ) (from before at g h : ℕ) → g ≡ group_byte_of f at → h ≡ group_byte_of f before → from ≤ before → before < at
    → g / 8 % 4 ≡ 0 → rank_of g ≤ group_count_of g → group_count_of h ≡ group_count_of g → rank_of h < rank_of g → GroupObeys f from before at
unfolding goes_before
member_right f from before at g h p q above below middle rank count lower =
    let here : rank_of g ≡ rank_of (group_byte_of f at) = ap (λ (x : ℕ). rank_of x) p in
    let there : rank_of h ≡ rank_of (group_byte_of f before) = ap (λ (x : ℕ). rank_of x) q in
    record {
      middle = subst (λ (x : ℕ). HasParts x (balise_middle ∷ [])) p ((omega arith, omega (arith, middle)), tt);
      rank = subst (λ (x : ℕ). rank_of x ≤ group_count_of x) p rank;
      sequence = inr (record {
        above = above;
        below = below;
        goes = (sym (ap (λ (x : ℕ). group_count_of x) q) ∙ count ∙ ap (λ (x : ℕ). group_count_of x) p, omega (arith, here, there, lower));
      });
    }

-- ---- what is asked of a balise

module _ (f : List ℕ) (at size : ℕ) (is : size ≡ size_byte_of f at) where
  -- a balise without a message
  pub plain_size : size ≤ balise_size → IsSize f Balise at balise_size
  unfolding size_of balise_bytes
  plain_size h = record { is = omega (arith, is); least = omega arith; most = omega arith }

  -- a balise with one
  pub whole_size : balise_size < size → size < 256 → IsSize f Balise at size
  unfolding size_of balise_bytes
  whole_size h below = record { is = omega (arith, is); least = omega arith; most = below }

  pub message_right : (until : ℕ) → balise_size < size → MessageObeys f at size until → true ≡ all_tests (message_fields f at)
  message_right until h m =
      let there : at + size - 1 ≡ at + balise_size + (size - balise_size) - 1 = omega arith in
      message_tested f at size is true h (sym (eq-eqb _ message_end (subst (λ (p : ℕ). num_at 1 f p ≡ message_end) there m.ends)))

fields_right : (f : List ℕ) (at : ℕ) → FixedObeys f at → RowObeys f at balise_group → true ≡ all_tests (message_fields f at) → true ≡ all_tests (kind_fields f Balise at)
unfolding kind_fields AllHold
fields_right f at o g message =
    tests_then true true (table_facts f at balise_table) (message_fields f at)
    (all_tests_lem (table_facts f at balise_table) (o.entry, (o.number, (o.attribute, (o.position, (o.track, (g.0, tt))))))) message

-- the group of a balise agrees, since from `from` on all records are balises
group_right :
    (f : List ℕ) (l : Layout) (from until before at : ℕ) → Sort l Balise from until → at < until → GroupObeys f from before at
    → true ≡ all_tests (kind_agrees f l before Balise at)
unfolding kind_agrees AllHold
group_right f l from until before at s below g =
    all_tests_lem (rank_in_count f at ∷ in_sequence f l before at ∷ [])
    (g.rank, (⊎_elim inl (λ (p : Preceded f from before at). inr (subst (λ (k : Kind). Holds (goes_before f k before at)) (s.kind before p.above (omega (arith, p.below))) p.goes)) g.sequence, tt))

-- ---- the marks

-- a cell that holds 0 may be given it again
pub unmarked : (marks : List ℕ) (i : ℕ) → get_or marks i 0 ≡ 0 → marks ≡ set marks i 0
unmarked marks i h = sym (set-get_or marks i 0) ∙ ap (λ (m : ℕ). set marks i m) h

-- ---- one turn: a balise that passes is passed over, and is marked where it is the first of its group
module _
    {f : List ℕ} {l : Layout} {marks left : List ℕ} {from until before at n : ℕ} {first : Bool}
    (s : Sort l Balise from until) (most : l.end ≤ place_most) (above : from ≤ at) (below : at < until)
    (p : Passing f l marks before at) (o : FixedObeys f at) (g : GroupObeys f from before at)
    (leads : first ≡ leading f at) (e : left ≡ set marks (at / cell) (mark_if first at))
  where
    pub balise_over : true ≡ all_tests (message_fields f at) → IsSize f Balise at n → Passing f l left at (at + n)
    balise_over message size =
        let within : at < l.end = omega (arith, below, s.inside) in
        let middle : group_byte_of f at / 8 % 4 ≡ 0 = omega (arith, g.middle.0.1) in
        subst (λ (ms : List ℕ). Passing f l ms at (at + n)) (sym e)
        (passing_over p within (omega (arith, within, most)) (s.kind at above below) (fields_right f at o g.middle message) refl
        (group_right f l from until before at s below g) refl (leads ∙ lead_rank (group_byte_of f at) middle) refl size)

-- Where a pass over the balises stands that began with other marks: in every layout that has balises from `from` to `until`. A loop over
-- them reads no layout.
abbrev pub Carried : List ℕ → ℕ → ℕ → ℕ → List ℕ → List ℕ → ℕ → ℕ → Type 0
Carried f from until before marks left last at = (l : Layout) → Bounded l → Sort l Balise from until → Passing f l marks before from → Passing f l left last at
