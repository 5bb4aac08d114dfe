-- How the verdict of a file comes from the verdicts of its checks: one law for each way out of the code.
use Prim.Native.Nat.{ℕ, ◌≤◌}
use mathlib.Core.Path.{◌≡◌, ◌∙◌, refl, sym, ap}
use mathlib.Core.List.{List, [], ◌∷◌, ◌++◌}
use lib.ListN.{length}
use Rattle.verdict.specs.declared.Mark.{Mark}
use Rattle.verdict.specs.Verdicts.{Judged}
use Rattle.std.specs.Prelude.{Ok, Err}
use Rattle.verdict.specs.Facts.{Fact, first_fault}
use Rattle.verdict.proofs.Facts.{stops, goes_on}
use Rattle.rules.specs.Rules.{length_between}
use Rattle.envelope.specs.Seal.{most_length, seal_facts}
use Rattle.x2_layout.specs.declared.Layout.{Layout}
use Rattle.x2_layout.specs.Results.{Shape}
use Rattle.x2_layout.specs.Layout.{layout_of}
use Rattle.x2_layout.specs.Facts.{layout_facts, shape_of}
use Rattle.x2_layout.specs.inner.Bounds.{Bounded, if_bounded}
use Rattle.x2_layout.proofs.Bounds.{regions_bounded, all_asked}
use Rattle.x2_layout.proofs.Shapes.{faulty_judged, found_judged, found_layout, found_regions}
use Rattle.x2_fields.specs.Fields.{field_facts}
use Rattle.x2_fields.specs.Agreement.{agreement_facts}
use Rattle.x2_links.specs.Links.{target_facts, return_facts}
use Rattle.x2_verdict.specs.Facts.{least_length, file_type, newest_version, record_facts, check_facts, facts, judged_of}

-- ---- the numbers of a layout that was found

pub found_bounded : (f : List ℕ) (s : Shape) → s ≡ shape_of f → (l : Layout) → s ≡ Ok l → length f ≤ most_length → Bounded l
found_bounded f s p l e h = regions_bounded f l (found_regions f s p l e) h

-- ---- the records: d is the verdict of the fields, g of the agreement, t of the targets

module _ (f : List ℕ) (l : Layout) (b : Bounded l) where
  asked : (v : Judged) (fs : List Fact) → v ≡ first_fault (if_bounded l fs) → v ≡ first_fault fs
  asked v fs e = e ∙ all_asked l fs b

  module _ (d : Judged) (p : d ≡ first_fault (if_bounded l (field_facts f l))) where
    pub fields_refused : (m : Mark) → d ≡ Err m → Err m ≡ first_fault (record_facts f l)
    unfolding record_facts
    fields_refused m e = stops d m (field_facts f l) (agreement_facts f l ++ (target_facts f l ++ return_facts f l)) (asked d (field_facts f l) p) e

    module _ (e : d ≡ Ok tt) (g : Judged) (q : g ≡ first_fault (if_bounded l (agreement_facts f l))) where
      after_fields : (r : Judged) → r ≡ first_fault (agreement_facts f l ++ (target_facts f l ++ return_facts f l)) → r ≡ first_fault (record_facts f l)
      unfolding record_facts
      after_fields r k = goes_on d r (field_facts f l) (agreement_facts f l ++ (target_facts f l ++ return_facts f l)) (asked d (field_facts f l) p) e k

      pub agreement_refused : (m : Mark) → g ≡ Err m → Err m ≡ first_fault (record_facts f l)
      agreement_refused m h = after_fields (Err m) (stops g m (agreement_facts f l) (target_facts f l ++ return_facts f l) (asked g (agreement_facts f l) q) h)

      module _ (h : g ≡ Ok tt) (t : Judged) (s : t ≡ first_fault (if_bounded l (target_facts f l))) where
        after_agreement : (r : Judged) → r ≡ first_fault (target_facts f l ++ return_facts f l) → r ≡ first_fault (record_facts f l)
        after_agreement r k = after_fields r (goes_on g r (agreement_facts f l) (target_facts f l ++ return_facts f l) (asked g (agreement_facts f l) q) h k)

        pub targets_refused : (m : Mark) → t ≡ Err m → Err m ≡ first_fault (record_facts f l)
        targets_refused m k = after_agreement (Err m) (stops t m (target_facts f l) (return_facts f l) (asked t (target_facts f l) s) k)

        pub all_checked : t ≡ Ok tt → (r : Judged) → r ≡ first_fault (if_bounded l (return_facts f l)) → r ≡ first_fault (record_facts f l)
        all_checked k r n = after_agreement r (goes_on t r (target_facts f l) (return_facts f l) (asked t (target_facts f l) s) k (asked r (return_facts f l) n))

-- ---- the file: s is the verdict of the length, t of the checksum, the type and the version

module _ (f : List ℕ) (s : Judged) (p : s ≡ first_fault (length_between f least_length most_length ∷ [])) where
  pub length_refused : (m : Mark) → s ≡ Err m → Err m ≡ judged_of f
  unfolding facts
  length_refused m e = stops s m (length_between f least_length most_length ∷ []) (check_facts f) p e

  module _ (e : s ≡ Ok tt) (t : Judged) (q : t ≡ first_fault (seal_facts f file_type newest_version)) where
    after_length : (r : Judged) → r ≡ first_fault (check_facts f) → r ≡ judged_of f
    unfolding facts
    after_length r k = goes_on s r (length_between f least_length most_length ∷ []) (check_facts f) p e k

    pub seal_refused : (m : Mark) → t ≡ Err m → Err m ≡ judged_of f
    unfolding check_facts
    seal_refused m h = after_length (Err m) (stops t m (seal_facts f file_type newest_version) (layout_facts f (layout_of f) ++ record_facts f (layout_of f)) q h)

    module _ (h : t ≡ Ok tt) (z : Shape) (w : z ≡ shape_of f) where
      after_seal : (r : Judged) → r ≡ first_fault (layout_facts f (layout_of f) ++ record_facts f (layout_of f)) → r ≡ judged_of f
      unfolding check_facts
      after_seal r k = after_length r (goes_on t r (seal_facts f file_type newest_version) (layout_facts f (layout_of f) ++ record_facts f (layout_of f)) q h k)

      pub layout_refused : (m : Mark) → z ≡ Err m → Err m ≡ judged_of f
      layout_refused m k = after_seal (Err m) (stops (Err m) m (layout_facts f (layout_of f)) (record_facts f (layout_of f)) (sym (faulty_judged f z w m k)) refl)

      pub records_judged : (l : Layout) → z ≡ Ok l → (r : Judged) → r ≡ first_fault (record_facts f l) → r ≡ judged_of f
      records_judged l k r n =
          let i = found_layout f z w l k in
          after_seal r (goes_on (Ok tt) r (layout_facts f (layout_of f)) (record_facts f (layout_of f)) (sym (found_judged f z w l k)) refl (n ∙ ap (λ (m : Layout). first_fault (record_facts f m)) i))
