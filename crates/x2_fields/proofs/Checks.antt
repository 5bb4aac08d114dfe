use Prim.Native.Nat.{ℕ}
use mathlib.Core.Path.{◌≡◌, sym, ap, ◌∙◌}
use mathlib.Core.Bool.{Bool, true, and-true}
use mathlib.Core.List.{List, [], ◌∷◌}
use borrow.Author.Tests.{eq-eqb, ne_eqb}
use Rattle.verdict.specs.Facts.{test, all_tests}
use Rattle.x2_records.specs.declared.Kind.{Kind}
use Rattle.x2_records.specs.Tables.{rank_of}
use Rattle.x2_layout.specs.declared.Layout.{Layout}
use Rattle.x2_layout.specs.Records.{kind_at}
use Rattle.x2_fields.specs.Agreement.{group_byte_of, goes_before, in_sequence}

-- A balise's sequence: the first of its group asks nothing more, and of a later one the record before it decides.
module _ (f : List ℕ) (l : Layout) (before at byte rank : ℕ) (is : byte ≡ group_byte_of f at) (ranked : rank ≡ rank_of byte) where
  rank_is : rank_of (group_byte_of f at) ≡ rank
  rank_is = sym (ranked ∙ ap rank_of is)

  pub first_tested : rank ≡ 1 → true ≡ all_tests (in_sequence f l before at ∷ [])
  first_tested e = rw (eq-eqb (rank_of (group_byte_of f at)) 1 (rank_is ∙ e))

  pub later_tested : (rank ≡ 1 → ⊥) → (k : Kind) (t : Bool) → k ≡ kind_at l before → t ≡ test (goes_before f k before at) → t ≡ all_tests (in_sequence f l before at ∷ [])
  later_tested n k t kind e =
      rw (ne_eqb (rank_of (group_byte_of f at)) 1 (λ h. n (sym rank_is ∙ h)), ← kind) (e ∙ sym (and-true (test (goes_before f k before at))))
