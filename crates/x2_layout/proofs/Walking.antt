-- A loop over the records of a file that tests each of them: one turn, and the end.
use Prim.Native.Nat.{ℕ, ◌+◌, ◌≤◌, ◌<◌}
use mathlib.Core.Path.{◌≡◌, ◌∙◌, sym, ap}
use Rattle.std.specs.Prelude.{Ok, Err}
use Rattle.verdict.specs.declared.Mark.{Mark}
use mathlib.Core.Bool.{Bool, true, false}
use mathlib.Core.List.{List}
use Rattle.verdict.specs.Verdicts.{Judged}
use Rattle.verdict.specs.Facts.{Fact, all_tests, first_fault}
use Rattle.verdict.proofs.Checks.{first_stop, passes_over, fails_here, checked_over, refused_here}
use Rattle.x2_records.specs.declared.Kind.{Kind}
use Rattle.x2_layout.specs.declared.Layout.{Layout}
use Rattle.x2_layout.specs.Records.{kind_at, IsSize, size_of, size_at, each_record}
use Rattle.x2_layout.specs.inner.Walking.{Walking}
use Rattle.x2_layout.proofs.Records.{size_at_pos}

module _ {f : List ℕ} {l : Layout} {facts : Kind → ℕ → List Fact} {at : ℕ} (i : Walking f l facts at) where
  pub walking_stop : l.end ≤ at → Ok tt ≡ first_fault (each_record f l facts)
  walking_stop h = sym (first_stop (size_at f l) l.end (λ x. facts (kind_at l x) x) at h) ∙ i.so

  -- t is the record's test
  tested : {k : Kind} {t : Bool} → k ≡ kind_at l at → t ≡ all_tests (facts k at) → t ≡ all_tests (facts (kind_at l at) at)
  tested kind e = e ∙ ap (λ (k : Kind). all_tests (facts k at)) kind

  -- a record whose tests pass is passed over
  pub walking_over : {k : Kind} {t : Bool} {n : ℕ} → at < l.end → k ≡ kind_at l at → t ≡ all_tests (facts k at) → t ≡ true → IsSize f k at n → Walking f l facts (at + n)
  walking_over {k} {t} {n} h kind e holds size = record {
    so =
        passes_over (size_at f l) l.end (λ x. facts (kind_at l x) x) (size_at_pos f l) at t h (tested kind e) (at + n) holds
        (ap (λ (m : ℕ). at + m) (size.is ∙ ap (λ (k : Kind). size_of f k at) kind))
        ∙ i.so;
  }

  -- at the first whose tests do not, the first fault is its own
  pub walking_fault : {k : Kind} {t : Bool} {r : Judged} → at < l.end → k ≡ kind_at l at → t ≡ all_tests (facts k at) → t ≡ false → r ≡ first_fault (facts k at) → r ≡ first_fault (each_record f l facts)
  walking_fault {k} {t} {r} h kind e fails judged =
      fails_here (size_at f l) l.end (λ x. facts (kind_at l x) x) (size_at_pos f l) at t h (tested kind e) r fails
      (judged ∙ ap (λ (k : Kind). first_fault (facts k at)) kind)
      ∙ i.so

  -- the same of a loop that judges each record, whose first fault is w
  module _ {k : Kind} {w : Judged} (h : at < l.end) (kind : k ≡ kind_at l at) (judged : w ≡ first_fault (facts k at)) where
    own : w ≡ first_fault (facts (kind_at l at) at)
    own = judged ∙ ap (λ (k : Kind). first_fault (facts k at)) kind

    pub walking_on : {n : ℕ} → w ≡ Ok tt → IsSize f k at n → Walking f l facts (at + n)
    walking_on {n} e size = record {
      so =
          checked_over (size_at f l) l.end (λ x. facts (kind_at l x) x) (size_at_pos f l) at w h own (at + n) e
          (ap (λ (m : ℕ). at + m) (size.is ∙ ap (λ (k : Kind). size_of f k at) kind))
          ∙ i.so;
    }

    pub walking_refused : (m : Mark) → w ≡ Err m → Err m ≡ first_fault (each_record f l facts)
    walking_refused m e = refused_here (size_at f l) l.end (λ x. facts (kind_at l x) x) (size_at_pos f l) at w h own e ∙ i.so
