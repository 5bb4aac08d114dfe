-- The first pass over the records of a kind that is no balise: where it starts, one turn of it, and where it ends. Such a record has one
-- size, and agrees whatever stands in it.
use Prim.Native.Nat.{ℕ, ◌+◌, ◌/◌, ◌≤◌, ◌<◌}
use mathlib.Core.Path.{◌≡◌, ◌∙◌, refl, sym, subst}
use mathlib.Core.Bool.{Bool, true}
use mathlib.Core.List.{List}
use native.Mathlib.Omega.{arith}
use lib.ListN.{length, set}
use Rattle.verdict.specs.Facts.{all_tests}
use Rattle.x2_records.specs.declared.Kind.{Kind}
use Rattle.x2_layout.specs.declared.Layout.{Layout}
use Rattle.x2_layout.specs.inner.Bounds.{place_most, Bounded}
use Rattle.x2_layout.specs.inner.Regions.{Regions}
use Rattle.x2_layout.specs.Records.{IsSize}
use Rattle.x2_kinds.specs.KindFields.{kind_fields}
use Rattle.x2_links.specs.inner.Marks.{cell, mark_if}
use Rattle.x2_verdict.specs.inner.Passes.{Sort, PlainKind, Passing}
use Rattle.x2_verdict.proofs.Passes.{passing_over}

-- the records before `at` are passed over, and `at` lies among the records of a kind, which stand from a place to another, or where they end
pub record Among (f : List ℕ) (l : Layout) (k : Kind) (from until : ℕ) (marks : List ℕ) (before at : ℕ) : Type 0 where
  pub passing : Passing f l marks before at
  pub sort : Sort l k from until
  pub after : from ≤ at
  pub upto : at ≤ until
  pub most : until ≤ place_most
  pub inside : until ≤ length f

module _ {f : List ℕ} {l : Layout} {k : Kind} {from until : ℕ} {marks : List ℕ} {before : ℕ} where
  pub among_first : Bounded l → Regions f l → Sort l k from until → Passing f l marks before from → Among f l k from until marks before from
  among_first b r s p = record { passing = p; sort = s; after = omega arith; upto = s.order; most = omega (arith, s.inside, b.end); inside = omega (arith, s.inside, r.inside) }

  pub among_last : {at : ℕ} → Among f l k from until marks before at → at ≡ until → Passing f l marks before until
  among_last i e = subst (λ (x : ℕ). Passing f l marks before x) e i.passing

module _ {f : List ℕ} {l : Layout} where
  -- one turn, where next and c are what the code has for the kind's bytes, and for whether a link may name it
  pub among_next :
      {k : Kind} {n from until : ℕ} {marks : List ℕ} {before at mark next : ℕ} {b c t : Bool}
      → PlainKind f l k n b → Among f l k from until marks before at → next ≡ n → c ≡ b → at + n ≤ until
      → t ≡ all_tests (kind_fields f k at) → t ≡ true → mark ≡ mark_if c at
      → Among f l k from until (set marks (at / cell) mark) at (at + next)
  among_next {k = k} {at = at} d i q r inside e holds mark =
      let size : IsSize f k at _ = subst (IsSize f k at) (sym q) (d.size at) in
      let below : at < l.end = omega (arith, size.least, q, i.sort.inside) in
      let kind = i.sort.kind at i.after (omega (arith, size.least, q)) in
      record {
        passing = passing_over i.passing below (omega (arith, i.upto, i.most)) kind e holds (d.agrees _ at) refl (r ∙ d.may at) mark size;
        sort = i.sort;
        after = omega (arith, i.after);
        upto = omega (arith, inside, q);
        most = i.most;
        inside = i.inside;
      }
