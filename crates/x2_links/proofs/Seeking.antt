-- A place is sought among the starts of the records, from the first one on: what is found from a record on is what is found at all, as long as the
-- records before it start before the place.
use Prim.Native.Nat.{ℕ, ◌+◌, ◌≤◌, ◌<◌}
use mathlib.Core.Path.{◌≡◌, refl, sym, ◌∙◌}
use mathlib.Core.Bool.{Bool, true, false, or-false}
use mathlib.Core.Logic.{◌↔◌, inl, inr}
use mathlib.Core.List.{List}
use lib.Dec.{leb}
use native.Mathlib.Omega.{arith}
use borrow.Author.Tests.{ne_eqb, eq-eqb, lt-leb, le-leb, leb-true}
use Rattle.envelope.specs.Seal.{number_most}
use Rattle.verdict.specs.Facts.{test, any_of, Holds}
use Rattle.verdict.specs.Walk.{starts_from}
use Rattle.verdict.proofs.Facts.{tested}
use Rattle.verdict.proofs.Orders.{and-true}
use Rattle.verdict.proofs.Walk.{starts_step, find_none}
use Rattle.x2_layout.specs.declared.Layout.{Layout}
use Rattle.x2_layout.specs.Records.{kind_at, size_at}
use Rattle.x2_layout.proofs.Records.{size_at_pos}
use Rattle.x2_links.specs.Links.{linkable, named, is_target, may_name}

-- no other record is the one that x names
pub other : (f : List ℕ) (l : Layout) (x y : ℕ) → (y ≡ x → ⊥) → test (named f l x y) ≡ false
other f l x y h = rw (ne_eqb y x h)

module _ (f : List ℕ) (l : Layout) (x : ℕ) where
  -- what is found among the records from `at` on
  abbrev pub found_from : ℕ → Bool
  found_from at = any_of (λ s. test (named f l x s)) (starts_from (size_at f l) l.end at)

  pub found_first : found_from l.starts ≡ test (is_target f l x)
  unfolding is_target
  found_first = refl

  pub found_next : (at next : ℕ) → at < x → x < l.end → next ≡ at + size_at f l at → found_from next ≡ found_from at
  found_next at next h g e = rw (e, starts_step (size_at f l) l.end (size_at_pos f l) at (omega arith), other f l x at (λ q. omega arith)) refl

  pub found_here : x < l.end → found_from x ≡ test (linkable f (kind_at l x) x)
  found_here g =
      rw (
        starts_step (size_at f l) l.end (size_at_pos f l) x g,
        eq-eqb x x refl,
        find_none (size_at f l) l.end x (λ s. test (named f l x s)) (other f l x) (x + size_at f l x) (inl (omega (arith, size_at_pos f l x))),
      )
      (or-false (test (linkable f (kind_at l x) x)))

  pub found_past : (at : ℕ) → x < at → found_from at ≡ false
  found_past at h = find_none (size_at f l) l.end x (λ s. test (named f l x s)) (other f l x) at (inl h)

  -- no record starts from End on
  pub found_end : l.end ≤ x → test (is_target f l x) ≡ false
  found_end h = sym found_first ∙ find_none (size_at f l) l.end x (λ s. test (named f l x s)) (other f l x) l.starts (inr h)

  -- ---- the answers

  pub too_high : number_most < x → false ≡ may_name f l x
  unfolding may_name
  too_high h = rw (lt-leb x number_most h) refl

  pub answered : (b : Bool) → x ≤ number_most → b ≡ test (is_target f l x) → b ≡ may_name f l x
  unfolding may_name
  answered b h e = rw (le-leb x number_most h) e

  -- THEOREM: a link may name x, in words
  pub may_name_lem : (may_name f l x ≡ true) ↔ ((x ≤ number_most) × Holds (is_target f l x))
  unfolding may_name
  may_name_lem = (
    λ e. let a = and-true (leb x number_most) (test (is_target f l x)) e in (leb-true x number_most a.0, (tested (is_target f l x)).0 a.1),
    λ h. rw (le-leb x number_most h.0) ((tested (is_target f l x)).1 h.1),
  )
