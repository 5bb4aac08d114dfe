-- What the links of an X.2 file are that obey, in 01's words, with no search and no test.
use Rattle.std.specs.Prelude.{ℕ, ◌+◌, ◌/◌, ◌%◌, ◌≤◌, ◌≡◌}
use mathlib.Core.List.{List, [], ◌∷◌, Memᴰ}
use Rattle.octets.specs.Octets.{num_at}
use Rattle.x2_records.specs.declared.Kind.{Kind}
use Rattle.x2_records.specs.declared.Kind.TheVariants as kind
use Rattle.x2_records.specs.Records.{link_places}
use Rattle.x2_layout.specs.declared.Layout.{Layout}
use Rattle.x2_layout.specs.Records.{kind_at, starts, DirectlyBefore}
use Rattle.x2_links.specs.Links.{link_at}
use Rattle.x2_obeys.specs.Fields.{Member}

-- a record may be linked to: no siding, and of balises only the first of its group (01: place 1), by the low three bits of the group byte
-- 01: X2.links.4, X2.links.6
-- 02: Ticket2.1
abbrev pub Linkable : List ℕ → Kind → ℕ → Type 0
Linkable f kind.StartBoundary at = Unit {0}
Linkable f kind.EndBoundary at = Unit {0}
Linkable f kind.Turnout at = Unit {0}
Linkable f kind.Balise at = num_at 1 f (at + 15) / 1 % 8 ≡ 0
Linkable f kind.Signal at = Unit {0}
Linkable f kind.Joint at = Unit {0}
Linkable f kind.Siding at = ⊥

-- x is a target: a record starts there that may be linked to
-- 01: X2.links.4
pub record Target (f : List ℕ) (l : Layout) (x : ℕ) : Type 0 where
  -- 01: Wrong.2
  pub record_there : Memᴰ x (starts f l)
  pub may : Linkable f (kind_at l x) x

-- a record of kind k at x has a link that names `at`
-- 01: X2.links.7
pub record LinksTo (f : List ℕ) (k : Kind) (x at : ℕ) : Type 0 where
  pub place : ℕ
  pub its_link : Memᴰ place (link_places k x)
  pub names : link_at f place ≡ at

-- a boundary has a link
-- 01: X2.links.3
abbrev pub HasLink : List ℕ → Kind → ℕ → Type 0
HasLink f kind.StartBoundary at = (1 ≤ link_at f (at + 1)) × (link_at f (at + 1) ≤ 65535)
HasLink f kind.EndBoundary at = (1 ≤ link_at f (at + 1)) × (link_at f (at + 1) ≤ 65535)
HasLink f kind.Turnout at = Unit {0}
HasLink f kind.Balise at = Unit {0}
HasLink f kind.Signal at = Unit {0}
HasLink f kind.Joint at = Unit {0}
HasLink f kind.Siding at = Unit {0}

-- no two of the links at some places name the same target
-- 01: X2.links.8
abbrev pub Distinct : List ℕ → List ℕ → Type 0
Distinct f [] = Unit {0}
Distinct f (p ∷ ps) = ((q : ℕ) → Memᴰ q ps → (link_at f q ≡ 0 → ⊥) → link_at f p ≡ link_at f q → ⊥) × Distinct f ps

-- 01: X2.links.2
pub record TargetsObey (f : List ℕ) (l : Layout) : Type 0 where
  -- 01: X2.links.3
  pub boundaries : (at : ℕ) → Memᴰ at (starts f l) → HasLink f (kind_at l at) at
  -- 01: X2.links.5
  pub others : (at : ℕ) → Memᴰ at (starts f l) → (p : ℕ) → Memᴰ p (link_places (kind_at l at) at) → (link_at f p ≡ 0 → ⊥)
      → link_at f p ≡ at → ⊥
  -- 01: X2.links.4
  pub places : (at : ℕ) → Memᴰ at (starts f l) → (p : ℕ) → Memᴰ p (link_places (kind_at l at) at) → (link_at f p ≡ 0 → ⊥)
      → Target f l (link_at f p)

-- the links of the balise at x, the previous at its byte 1 and the next at its byte 3, are those of the balise at b
-- 02: Ticket2.3
pub record SameLinks (f : List ℕ) (b x : ℕ) : Type 0 where
  pub previous : link_at f (x + 1) ≡ link_at f (b + 1)
  pub next : link_at f (x + 3) ≡ link_at f (b + 3)

pub record ReturnsObey (f : List ℕ) (l : Layout) : Type 0 where
  -- but for balises of place above 1, for whose links no return is due
  -- 01: X2.links.2, X2.links.7
  -- 02: Ticket2.4
  pub returned :
      (at : ℕ) → Memᴰ at (starts f l) → (Member f l at → ⊥)
      → (p : ℕ) → Memᴰ p (link_places (kind_at l at) at) → (link_at f p ≡ 0 → ⊥)
      → LinksTo f (kind_at l (link_at f p)) (link_at f p) at
  -- 01: X2.links.8
  pub single : (at : ℕ) → Memᴰ at (starts f l) → (Member f l at → ⊥) → Distinct f (link_places (kind_at l at) at)
  -- the links of a balise of place above 1 are those of the record directly before it
  -- 02: Ticket2.3, Ticket13.4
  pub members : (at : ℕ) → Memᴰ at (starts f l) → Member f l at → (b : ℕ) → DirectlyBefore f l b at → SameLinks f b at
