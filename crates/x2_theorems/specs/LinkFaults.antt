-- What is at fault in the links of an X.2 file, at which link field (01, 'Links' and numbers 8 and 9 of 'Verdicts and their order'). It
-- is said of the bytes alone, beside Obeys: 0 is no link. What a refusal reports is the lowest of these places: 'the first fault in byte
-- order counts'.
use Rattle.std.specs.Prelude.{ℕ, ◌+◌, ◌<◌, ◌≡◌}
use mathlib.Core.List.{List, Memᴰ}
use Rattle.x2_records.specs.Records.{link_places}
use Rattle.x2_layout.specs.declared.Layout.{Layout}
use Rattle.x2_layout.specs.Records.{kind_at, starts, DirectlyBefore}
use Rattle.x2_links.specs.Links.{link_at}
use Rattle.x2_obeys.specs.Fields.{Member}
use Rattle.x2_obeys.specs.Links.{Target, LinksTo, HasLink}

-- p is a link field of the record at `at`, and its link is not 0
pub record NonzeroLink (f : List ℕ) (l : Layout) (at p : ℕ) : Type 0 where
  pub record_there : Memᴰ at (starts f l)
  pub its_field : Memᴰ p (link_places (kind_at l at) at)
  -- 01: X2.links.2
  pub some_link : link_at f p ≡ 0 → ⊥

-- ---- 8: the target is wrong

-- 01: No.8
pub data TargetAtFault (f : List ℕ) (l : Layout) (p : ℕ) : Type 0 where
  -- a boundary, whose link stands after its type byte, has none
  -- 01: X2.links.3
  no_link : (at : ℕ) → Memᴰ at (starts f l) → p ≡ at + 1 → (HasLink f (kind_at l at) at → ⊥) → TargetAtFault f l p
  -- a link names its own record
  itself : (at : ℕ) → NonzeroLink f l at p → link_at f p ≡ at → TargetAtFault f l p
  -- a link names no record that may be linked to
  no_target : (at : ℕ) → NonzeroLink f l at p → (Target f l (link_at f p) → ⊥) → TargetAtFault f l p

-- ---- 9: the link is not returned, or is the second of a doubled one, or differs from that of the record before

-- 01: No.9
pub data ReturnAtFault (f : List ℕ) (l : Layout) (p : ℕ) : Type 0 where
  -- no link of the record that it names comes back
  not_returned :
      (at : ℕ) → NonzeroLink f l at p → (Member f l at → ⊥) → (LinksTo f (kind_at l (link_at f p)) (link_at f p) at → ⊥)
      → ReturnAtFault f l p
  -- an earlier link field of the same record has the same link
  doubled :
      (at : ℕ) → NonzeroLink f l at p → (Member f l at → ⊥) → (q : ℕ) → Memᴰ q (link_places (kind_at l at) at) → q < p
      → link_at f q ≡ link_at f p → ReturnAtFault f l p
  -- the previous link of a balise of place above 1, which stands at its byte 1, or the next, at its byte 3, is not that of the record
  -- directly before it
  -- 02: Ticket2.7
  other_previous :
      (at b : ℕ) → Memᴰ at (starts f l) → Member f l at → DirectlyBefore f l b at → p ≡ at + 1
      → (link_at f (at + 1) ≡ link_at f (b + 1) → ⊥) → ReturnAtFault f l p
  -- 02: Ticket2.7
  other_next :
      (at b : ℕ) → Memᴰ at (starts f l) → Member f l at → DirectlyBefore f l b at → p ≡ at + 3
      → (link_at f (at + 3) ≡ link_at f (b + 3) → ⊥) → ReturnAtFault f l p
