-- A loop over the records of a file that tests each of them: where it stands. No reviewer has to believe this: each use of it is proved.
use Rattle.std.specs.Prelude.{ℕ, ◌≤◌, ◌≡◌}
use mathlib.Core.List.{List, flat_map}
use Rattle.verdict.specs.Facts.{Fact, first_fault}
use Rattle.verdict.specs.Walk.{starts_from}
use Rattle.x2_records.specs.declared.Kind.{Kind}
use Rattle.x2_layout.specs.declared.Layout.{Layout}
use Rattle.x2_layout.specs.Records.{kind_at, size_at, each_record, before_in, record_before}

-- The records before `at` are right: the facts of the records from `at` on have the first fault that the facts of all records have.
pub record Walking (f : List ℕ) (l : Layout) (facts : Kind → ℕ → List Fact) (at : ℕ) : Type 0 where
  pub so : first_fault (flat_map (λ x. facts (kind_at l x) x) (starts_from (size_at f l) l.end at)) ≡ first_fault (each_record f l facts)

-- The same with the record before each: the search for the record before one that is still to come goes on from `at` with `before`.
pub record Following (f : List ℕ) (l : Layout) (facts : ℕ → Kind → ℕ → List Fact) (before at : ℕ) : Type 0 where
  pub walking : Walking f l (λ k x. facts (record_before f l x) k x) at
  pub onward_is : (x : ℕ) → at ≤ x → record_before f l x ≡ before_in before (starts_from (size_at f l) l.end at) x
