-- Two passes over the records of a file: where each stands, what each has seen, and what it says of a record.
use Rattle.std.specs.Prelude.{ℕ, ◌≤◌, ◌<◌, ◌≡◌, Bool, true, not, cond, ◌&&◌, ◌||◌, List, [], eqb, ltb}
use Rattle.std.specs.Prelude.{Ok}
use Rattle.verdict.specs.Facts.{same, both, either, denied, Holds, AllHold, first_fault, test, all_tests}
use Rattle.x2_records.specs.declared.Kind.{Kind}
use Rattle.x2_records.specs.declared.Kind.TheVariants.{StartBoundary, Turnout, Balise}
use Rattle.x2_records.specs.Records.{link_places}
use Rattle.x2_layout.specs.declared.Layout.{Layout}
use Rattle.x2_layout.specs.Records.{kind_at, IsSize, each_record, each_after}
use Rattle.x2_layout.specs.inner.Walking.{Walking, Following}
use Rattle.x2_kinds.specs.KindFields.{kind_fields}
use Rattle.x2_fields.specs.Agreement.{kind_agrees}
use Rattle.x2_links.specs.Links.{linkable, is_target, links_to, targets, returns, same_links, record_targets, record_returns, target_facts, return_facts}
use Rattle.x2_links.specs.inner.Marks.{mark_at, Marking, Targets}

-- the records that start from a place on and before another are of one kind, and all of them start before End
pub record Sort (l : Layout) (k : Kind) (from until : ℕ) : Type 0 where
  pub order : from ≤ until
  pub inside : until ≤ l.end
  pub kind : (x : ℕ) → from ≤ x → x < until → k ≡ kind_at l x

-- the records of a kind have n bytes and agree; b says whether a link may name them
pub record PlainKind (f : List ℕ) (l : Layout) (k : Kind) (n : ℕ) (b : Bool) : Type 0 where
  pub size : (at : ℕ) → IsSize f k at n
  pub agrees : (before at : ℕ) → true ≡ all_tests (kind_agrees f l before k at)
  pub may : (at : ℕ) → b ≡ test (linkable f k at)

-- ---- the first pass

-- the records before `at` obey by their fields and agree, and what a link may name of them is marked
pub record Passing (f : List ℕ) (l : Layout) (marks : List ℕ) (before at : ℕ) : Type 0 where
  pub fields : Walking f l (kind_fields f) at
  pub agrees : Following f l (kind_agrees f l) before at
  pub marked : Marking f l marks at

-- so do all records
pub record AllPassed (f : List ℕ) (l : Layout) (marks : List ℕ) : Type 0 where
  pub fields : Ok tt ≡ first_fault (each_record f l (kind_fields f))
  pub agrees : Ok tt ≡ first_fault (each_after f l (kind_agrees f l))
  pub marked : Targets f l marks

-- ---- the second pass

-- the link x of the record at `at` is 0, or names a marked place, and not its own record
abbrev pub aims : List ℕ → ℕ → ℕ → Bool
aims marks at x = eqb x 0 || (not (eqb x at) && mark_at marks x)

-- the link x of the record at `at` obeys: 0, or it names what it may and is returned
pub record LinkHolds (f : List ℕ) (l : Layout) (at x : ℕ) : Type 0 where
  pub aims : Holds (either (same x 0) (both (denied (same x at)) (is_target f l x)))
  pub returned : Holds (either (same x 0) (links_to f (kind_at l x) x at))

-- the links at some places obey, all links of the record at `at`
pub record LinksHold (f : List ℕ) (l : Layout) (at : ℕ) (places : List ℕ) : Type 0 where
  pub targets : AllHold (targets f l at places)
  pub returns : AllHold (returns f l at [] places)

-- the links of a balise of place above 1 obey, after the record at `before`
pub record MemberHolds (f : List ℕ) (l : Layout) (before at : ℕ) : Type 0 where
  pub targets : AllHold (targets f l at (link_places Balise at))
  pub alike : AllHold (same_links f before at)

-- the links of a record of a kind obey, after the record at `before`
pub record RecordLinked (f : List ℕ) (l : Layout) (before : ℕ) (k : Kind) (at : ℕ) : Type 0 where
  pub targets : AllHold (record_targets f l k at)
  pub returns : AllHold (record_returns f l before k at)

-- as far as its links go, a record that a link may name is a boundary, a turnout, or like a balise
abbrev pub link_kind : Layout → ℕ → Kind
link_kind l x = cond (ltb x l.turnouts) StartBoundary (cond (ltb x l.balises) Turnout Balise)

-- the links of the records before `at` obey
pub record Linking (f : List ℕ) (l : Layout) (before at : ℕ) : Type 0 where
  pub targets : Walking f l (record_targets f l) at
  pub returns : Following f l (record_returns f l) before at

-- so do those of all records
pub record AllLinked (f : List ℕ) (l : Layout) : Type 0 where
  pub targets : Ok tt ≡ first_fault (target_facts f l)
  pub returns : Ok tt ≡ first_fault (return_facts f l)

-- the link y of a record obeys that has the link x too: it is 0, or is another
pub record NextHolds (f : List ℕ) (l : Layout) (at x y : ℕ) : Type 0 where
  pub link : LinkHolds f l at y
  pub another : Holds (either (same y 0) (denied (same x y)))
