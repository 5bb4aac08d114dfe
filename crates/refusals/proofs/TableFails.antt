-- The facts of any table, one by one: what is so of each of them, where they fail, and that their places rise.
use Prim.Native.Nat.{ℕ, ◌+◌, ◌-◌, ◌≤◌}
use mathlib.Core.Path.{◌≡◌, refl, sym, ap, subst, ◌∙◌}
use mathlib.Core.Logic.{◌⊎◌, inl, inr, ⊎_elim, ◌↔◌}
use mathlib.Core.List.Memᴰ
use mathlib.Core.List.{List, [], ◌∷◌, Memᴰ}
use native.Mathlib.Nat.{le_refl}
use native.Mathlib.Omega.{arith}
use Rattle.verdict.specs.declared.Mark.{Mark}
use Rattle.verdict.specs.declared.Rule.{Rule}
use Rattle.verdict.specs.Facts.{Claim}
use Rattle.refusals.proofs.Sections.{Each, each_append}
use Rattle.refusals.proofs.Places.{Failing, failing_append, one_place, Rises, rises_append, rises_one}
use Rattle.tables.specs.Table.{Part, bits, Values, any, link, exactly, between, within, among_four, among_five, named, parts, Row}
use Rattle.tables.specs.Rows.{field_mark, part_facts, value_facts, row_facts, table_facts, RowObeys, RowAtFault, Tiled, done, next}
use Rattle.tables.proofs.Rows.{row_iff}

-- ---- what is so of every claim on a field of the record, with the field's mark, is so of each fact

module _ (f : List ℕ) (at : ℕ) (P : Claim → Mark → Type 0) where
  module _ (k w : ℕ) (so : (c : Claim) (r : Rule) → P c (field_mark at k w r)) where
    each_part : (ps : List Part) → Each P (part_facts f at k w ps)
    each_part [] = tt
    each_part (bits over modulo low high ∷ ps) = (so _ _, each_part ps)

    each_value : (x : Values) → Each P (value_facts f at k w x)
    each_value any = tt
    each_value link = tt
    each_value (exactly n) = (so _ _, tt)
    each_value (between low high) = (so _ _, tt)
    each_value (within limit) = (so _ _, tt)
    each_value (among_four a b c d) = (so _ _, tt)
    each_value (among_five a b c d e) = (so _ _, tt)
    each_value (named least) = (so _ _, tt)
    each_value (parts ps) = each_part ps

  pub each_table : ((k w : ℕ) (c : Claim) (r : Rule) → P c (field_mark at k w r)) → (t : List Row) → Each P (table_facts f at t)
  each_table so [] = tt
  each_table so (r ∷ rs) = each_append P (row_facts f at r) (table_facts f at rs) (each_value r.offset r.width (so r.offset r.width) r.values) (each_table so rs)

-- ---- a table

module _ (f : List ℕ) (at : ℕ) where
  row_at : (r : Row) → Each (λ c m. m.place ≡ at + r.offset) (row_facts f at r)
  row_at r = each_value f at (λ c m. m.place ≡ at + r.offset) r.offset r.width (λ c u. refl) r.values

  -- LAW: for any table
  pub table_fails : (t : List Row) (p : ℕ) → Failing (table_facts f at t) p ↔ RowAtFault f at t p
  table_fails [] p = (λ h. absurd h, λ x. absurd (Memᴰ.not-nil x.there))
  table_fails (r ∷ rs) p =
      let ih = table_fails rs p in
      let cut = failing_append (row_facts f at r) (table_facts f at rs) p in
      let here = one_place (at + r.offset) (row_facts f at r) (RowObeys f at r) (row_at r) (row_iff f at r) p in (
        λ h. ⊎_elim (λ (x : Failing (row_facts f at r) p). let w = here.0 x in record { which = r; there = Memᴰ.head refl; stands = w.0; fails = w.1 })
            (λ (x : Failing (table_facts f at rs) p). let w = ih.0 x in record { which = w.which; there = Memᴰ.tail w.there; stands = w.stands; fails = w.fails })
            (cut.0 h),
        λ x. cut.1 (⊎_elim (λ (e : x.which ≡ r). inl (here.1 (x.stands ∙ ap (λ (s : Row). at + s.offset) e, λ o. x.fails (subst (λ (s : Row). RowObeys f at s) (sym e) o))))
            (λ (m : Memᴰ x.which rs). inr (ih.1 (record { which = x.which; there = m; stands = x.stands; fails = x.fails }))) (Memᴰ.cases_cons x.there)),
      )

  -- LAW: for any table that leaves no gap
  pub table_rises : (low : ℕ) {from end : ℕ} {t : List Row} → low ≤ at + from → Tiled from t end → Rises low (at + end) (table_facts f at t)
  table_rises low h done = h
  table_rises low h (next {from = from} {end = end} {r = r} {rs = rs} e d) =
      rises_append low (at + (from + r.width)) (at + end) (row_facts f at r) (table_facts f at rs)
      (rises_one (at + r.offset) low (at + (from + r.width)) (row_facts f at r) (row_at r) (omega arith) (omega arith))
      (table_rises (at + (from + r.width)) (le_refl (at + (from + r.width))) d)
