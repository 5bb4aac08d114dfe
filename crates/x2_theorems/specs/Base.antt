-- What an X.2 file was that obeyed document 01 alone, before tickets 2 and 10 of document 02. A balise of place above 1 was judged as every
-- other record, so it stood in no sequence, and its links had to be returned; no byte of a name was 0x20, and a joint had a name. It is said
-- here so that files of that time are known to be safe (proofs/Base): one that has no such balise obeyed exactly where it obeys now and its
-- names are of that time.
use Rattle.std.specs.Prelude.{ℕ, ◌+◌, ◌*◌, ◌≤◌, ◌<◌, ◌≡◌, length, take}
use mathlib.Core.List.{List, Memᴰ}
use Rattle.octets.specs.Octets.{num_at}
use Rattle.checksum.specs.Checksum.{checksum_of}
use Rattle.envelope.specs.Seal.{end_of}
use Rattle.names.specs.Base.{BaseName}
use Rattle.x2_records.specs.declared.Kind.{Kind}
use Rattle.x2_records.specs.declared.Kind.TheVariants as kind
use Rattle.x2_records.specs.Records.{link_places}
use Rattle.x2_layout.specs.declared.Layout.{Layout}
use Rattle.x2_layout.specs.Layout.{layout_of}
use Rattle.x2_layout.specs.Records.{kind_at, starts}
use Rattle.x2_layout.specs.Obeys.{LayoutObeys}
use Rattle.x2_links.specs.Links.{link_at}
use Rattle.x2_obeys.specs.Fields.{rank_at, group_count_at, Member, FieldsObey}
use Rattle.x2_obeys.specs.Links.{LinksTo, Distinct, TargetsObey}

-- the file has no balise of place above 1
abbrev pub NoMembers : List ℕ → Type 0
NoMembers f = (at : ℕ) → Memᴰ at (starts f (layout_of f)) → Member f (layout_of f) at → ⊥

-- the 8 bytes at p are a name of at least so many bytes, by document 01 alone
pub record BaseNamed (f : List ℕ) (p least : ℕ) : Type 0 where
  pub count : ℕ
  pub enough : least ≤ count
  pub name : BaseName f p count

-- the names of a record of a kind
abbrev pub BaseNames : List ℕ → Kind → ℕ → Type 0
BaseNames f kind.StartBoundary at = Unit {0}
BaseNames f kind.EndBoundary at = Unit {0}
BaseNames f kind.Turnout at = Unit {0}
BaseNames f kind.Balise at = Unit {0}
BaseNames f kind.Signal at = BaseNamed f (at + 5) 1
BaseNames f kind.Joint at = BaseNamed f (at + 5) 1
BaseNames f kind.Siding at = BaseNamed f (at + 1) 1 × BaseNamed f (at + 13) 0 × BaseNamed f (at + 24) 0

-- every name of the file
abbrev pub AllBaseNames : List ℕ → Type 0
AllBaseNames f = (at : ℕ) → Memᴰ at (starts f (layout_of f)) → BaseNames f (kind_at (layout_of f) at) at

pub record BaseAgreement (f : List ℕ) (l : Layout) : Type 0 where
  pub start_tracks : (i : ℕ) → i < l.n → num_at 1 f (24 + 3 * i) ≡ num_at 1 f (l.starts + 12 * i + 11)
  pub end_tracks : (j : ℕ) → j < l.k → num_at 1 f (25 + 3 * l.n + 3 * j) ≡ num_at 1 f (l.ends + 12 * j + 11)
  pub places : (at : ℕ) → Memᴰ at (starts f l) → kind_at l at ≡ kind.Balise → rank_at f at ≤ group_count_at f at

pub record BaseReturns (f : List ℕ) (l : Layout) : Type 0 where
  pub returned :
      (at : ℕ) → Memᴰ at (starts f l) → (p : ℕ) → Memᴰ p (link_places (kind_at l at) at) → (link_at f p ≡ 0 → ⊥)
      → LinksTo f (kind_at l (link_at f p)) (link_at f p) at
  pub single : (at : ℕ) → Memᴰ at (starts f l) → Distinct f (link_places (kind_at l at) at)

pub record BaseObeys (f : List ℕ) : Type 0 where
  pub least : 69 ≤ length f
  pub most : length f ≤ 65535
  pub checksum : num_at 4 f (end_of f) ≡ checksum_of (take (end_of f) f)
  pub file_type : num_at 1 f 0 ≡ 2
  pub structure_version : num_at 2 f 1 ≡ 1
  pub layout : LayoutObeys f (layout_of f)
  -- the fields, and among them the names by the narrower rule
  pub fields : FieldsObey f (layout_of f)
  pub names : AllBaseNames f
  pub agreement : BaseAgreement f (layout_of f)
  pub targets : TargetsObey f (layout_of f)
  pub returns : BaseReturns f (layout_of f)
