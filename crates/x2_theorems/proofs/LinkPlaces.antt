-- THEOREM: a refusal for a link's target is at the lowest link field whose target is at fault, and one for its return at the lowest whose
-- return is. The facts stand in byte order, record by record without gaps.
use Prim.Native.Nat.{ℕ, ◌+◌}
use mathlib.Core.Bool.{Bool, true, false, cond}
use mathlib.Core.Logic.{◌↔◌}
use mathlib.Core.List.{List, []}
use native.Mathlib.Omega.{arith}
use Rattle.verdict.specs.Facts.{Fact}
use Rattle.verdict.specs.Order.{Lowest}
use Rattle.verdict.proofs.Walk.{reach_le}
use Rattle.refusals.proofs.Places.{Failing, Rises, rises_starts, Located, located}
use Rattle.x2_records.specs.declared.Kind.{Kind}
use Rattle.x2_records.specs.declared.Kind.TheVariants as kind
use Rattle.x2_records.specs.Records.{link_places}
use Rattle.x2_layout.specs.declared.Layout.{Layout}
use Rattle.x2_layout.specs.Facts.{balise_bytes}
use Rattle.x2_layout.specs.Records.{kind_at, size_of, size_at, each_record, record_before}
use Rattle.x2_layout.specs.inner.Regions.{Regions}
use Rattle.x2_layout.proofs.Regions.{some_boundary}
use Rattle.x2_layout.proofs.Starts.{reach_stop, start_fits}
use Rattle.x2_links.specs.Links.{record_targets, target_facts, returns, same_links, is_member, record_returns, return_facts}
use Rattle.x2_theorems.specs.LinkFaults.{TargetAtFault, ReturnAtFault}
use Rattle.x2_theorems.proofs.TargetFails.{targets_fail}
use Rattle.x2_theorems.proofs.ReturnFails.{returns_fail}

-- ---- a record's places rise inside it

module _ (f : List ℕ) (l : Layout) (at : ℕ) where
  targets_rise : (k : Kind) → Rises at (at + size_of f k at) (record_targets f l k at)
  unfolding size_of balise_bytes
  targets_rise kind.StartBoundary = omega arith
  targets_rise kind.EndBoundary = omega arith
  targets_rise kind.Turnout = omega arith
  targets_rise kind.Balise = omega arith
  targets_rise kind.Signal = omega arith
  targets_rise kind.Joint = omega arith
  targets_rise kind.Siding = omega arith

  returns_rise : (k : Kind) → Rises at (at + size_of f k at) (returns f l at [] (link_places k at))
  unfolding size_of balise_bytes
  returns_rise kind.StartBoundary = omega arith
  returns_rise kind.EndBoundary = omega arith
  returns_rise kind.Turnout = omega arith
  returns_rise kind.Balise = omega arith
  returns_rise kind.Signal = omega arith
  returns_rise kind.Joint = omega arith
  returns_rise kind.Siding = omega arith

  -- those of a balise of place above 1; no record is shorter than its two links
  same_rise : (b : ℕ) (k : Kind) → Rises at (at + size_of f k at) (same_links f b at)
  unfolding size_of balise_bytes
  same_rise b kind.StartBoundary = omega arith
  same_rise b kind.EndBoundary = omega arith
  same_rise b kind.Turnout = omega arith
  same_rise b kind.Balise = omega arith
  same_rise b kind.Signal = omega arith
  same_rise b kind.Joint = omega arith
  same_rise b kind.Siding = omega arith

  record_rises : (b : ℕ) (k : Kind) → Rises at (at + size_of f k at) (record_returns f l b k at)
  record_rises b k = either_rises (is_member f k at)
    where
      either_rises : (t : Bool) → Rises at (at + size_of f k at) (cond t (same_links f b at) (returns f l at [] (link_places k at)))
      either_rises true = same_rise b k
      either_rises false = returns_rise k

-- ---- so those of the records do, and the first fact that fails has the lowest place

module _ (f : List ℕ) (l : Layout) (r : Regions f l) where
  records_located : (g : Kind → ℕ → List Fact) (P : ℕ → Type 0) → ((at : ℕ) (k : Kind) → Rises at (at + size_of f k at) (g k at))
      → ((p : ℕ) → Failing (each_record f l g) p ↔ P p) → Located (each_record f l g) (Lowest P)
  records_located g P own fails =
      located l.starts l.end (each_record f l g) P
      (rises_starts (size_at f l) l.end l.end (λ at. g (kind_at l at) at) (λ at. own at (kind_at l at)) l.starts (reach_le (reach_stop f l r)) (start_fits f l r)) fails

  -- THEOREM: check 8
  pub targets_located : Located (target_facts f l) (Lowest (TargetAtFault f l))
  unfolding target_facts
  targets_located = records_located (record_targets f l) (TargetAtFault f l) (targets_rise f l) (targets_fail f l)

  -- THEOREM: check 9
  pub returns_located : Located (return_facts f l) (Lowest (ReturnAtFault f l))
  unfolding return_facts
  returns_located =
      records_located (λ k at. record_returns f l (record_before f l at) k at) (ReturnAtFault f l) (λ at. record_rises f l at (record_before f l at)) (returns_fail f l (some_boundary r))
