-- The records of an X.2 file in stored order: the region that a start lies in gives the kind, the kind (or a balise's size byte) the size,
-- and the size the next start.
use Rattle.std.specs.Prelude.{ℕ, ◌+◌, ◌≤◌, ◌<◌, ◌≡◌, cond, ltb, eqb}
use mathlib.Core.List.{List, [], ◌∷◌, flat_map, Memᴰ}
use Rattle.verdict.specs.Facts.{Claim, same, some, Fact}
use Rattle.verdict.specs.Walk.{starts_from}
use Rattle.x2_records.specs.declared.Kind.{Kind}
use Rattle.x2_records.specs.declared.Kind.TheVariants.{StartBoundary, EndBoundary, Turnout, Balise, Signal, Joint, Siding}
use Rattle.x2_records.specs.Places.{boundary_size, turnout_size, signal_size, joint_size, siding_size}
use Rattle.x2_layout.specs.declared.Layout.{Layout}
use Rattle.x2_layout.specs.Facts.{balise_bytes}

-- the kind of a record, by the region that its start lies in
-- 01: X2.layout.1
unfoldable pub kind_at : Layout → ℕ → Kind
kind_at l at =
    cond (ltb at l.ends) StartBoundary
    (cond (ltb at l.turnouts) EndBoundary
    (cond (ltb at l.balises) Turnout
    (cond (ltb at l.signals) Balise
    (cond (ltb at l.joints) Signal
    (cond (ltb at l.sidings) Joint Siding)))))

-- how many bytes the record of a kind at a place has
-- 01: X2.layout.2
unfoldable pub size_of : List ℕ → Kind → ℕ → ℕ
size_of f StartBoundary at = boundary_size
size_of f EndBoundary at = boundary_size
size_of f Turnout at = turnout_size
size_of f Balise at = balise_bytes f at
size_of f Signal at = signal_size
size_of f Joint at = joint_size
size_of f Siding at = siding_size

-- r is that, and small
pub record IsSize (f : List ℕ) (k : Kind) (at r : ℕ) : Type 0 where
  pub is : r ≡ size_of f k at
  pub least : boundary_size ≤ r
  pub most : r < 256

abbrev pub size_at : List ℕ → Layout → ℕ → ℕ
size_at f l at = size_of f (kind_at l at) at

-- the starts of all records
-- 01: X2.layout.1, Wrong.2
abbrev pub starts : List ℕ → Layout → List ℕ
starts f l = starts_from (size_at f l) l.end l.starts

-- the facts of each record in turn, by its kind
abbrev pub each_record : List ℕ → Layout → (Kind → ℕ → List Fact) → List Fact
each_record f l facts = flat_map (λ at. facts (kind_at l at) at) (starts f l)

-- a record starts at x
unfoldable pub is_start : List ℕ → Layout → ℕ → Claim
is_start f l x = some (starts f l) (λ s. same s x)

-- ---- the record directly before another

-- the number directly before x in a list, and p before the first
unfoldable pub before_in : ℕ → List ℕ → ℕ → ℕ
before_in p [] x = p
before_in p (y ∷ ys) x = cond (eqb y x) p (before_in y ys x)

-- the start of the record directly before the one at x in the file; 0, where the header starts, before the first
unfoldable pub record_before : List ℕ → Layout → ℕ → ℕ
record_before f l x = before_in 0 (starts f l) x

-- the same with no search: a record starts at b, and ends where x starts
-- 02: Ticket2.2
pub record DirectlyBefore (f : List ℕ) (l : Layout) (b x : ℕ) : Type 0 where
  pub record_there : Memᴰ b (starts f l)
  pub ends_there : b + size_at f l b ≡ x

-- the facts of each record in turn, by the record before it and by its kind
abbrev pub each_after : List ℕ → Layout → (ℕ → Kind → ℕ → List Fact) → List Fact
each_after f l facts = each_record f l (λ k at. facts (record_before f l at) k at)
