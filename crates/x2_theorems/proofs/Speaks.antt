-- THEOREM: the mark of an X.2 refusal is its true reason: its rule fails, and every rule before it holds.
use Prim.Native.Nat.{ℕ}
use mathlib.Core.Path.{◌≡◌, refl, sym, ap, ◌∙◌}
use mathlib.Core.List.{List, [], ◌∷◌, ◌++◌}
use Rattle.verdict.specs.declared.Mark.{Mark}
use Rattle.verdict.specs.declared.Reason.{Reason}
use Rattle.verdict.specs.declared.Reason.TheVariants.{Layout, Field, Agreement, Target, Return}
use Rattle.std.specs.Prelude.{Ok, Err}
use Rattle.verdict.specs.Facts.{Fact, fact, TrueReason, Marked}
use Rattle.verdict.proofs.Facts.{true_reason, marked_append}
use Rattle.refusals.proofs.Sections.{Each, Speaks}
use Rattle.x2_layout.specs.Layout.{layout_of}
use Rattle.x2_layout.specs.Facts.{layout_facts}
use Rattle.x2_theorems.proofs.LayoutSpeaks.{layout_speak}
use Rattle.x2_fields.specs.Fields.{field_facts}
use Rattle.x2_fields.specs.Agreement.{agreement_facts}
use Rattle.x2_theorems.proofs.FieldSpeaks.{fields_speak, agreement_speak}
use Rattle.x2_links.specs.Links.{target_facts, return_facts}
use Rattle.x2_theorems.proofs.LinkSpeaks.{targets_speak, returns_speak}
use Rattle.x2_verdict.specs.Facts.{record_facts, check_facts, facts, judged_of}
use Rattle.x2_theorems.specs.Says.{says_for, says_of}

-- what a section's marks say by its reason, they say by their own
by_reason : (f : List ℕ) (r : Reason) (fs : List Fact) → Each (Speaks (says_for f r) r) fs → Marked (says_of f) fs
by_reason f r [] h = tt
by_reason f r (fact c m ∷ fs) h = (h.0.1 ∙ ap (λ (x : Reason). says_for f x m) (sym h.0.0), by_reason f r fs h.1)

pub facts_marked : (f : List ℕ) → Marked (says_of f) (facts f)
unfolding facts check_facts record_facts
facts_marked f =
    let l = layout_of f in
    let s = says_of f in
    let linked = target_facts f l ++ return_facts f l in
    let agreed = agreement_facts f l ++ linked in
    let filled = field_facts f l ++ agreed in (
      refl,
      (
        refl,
        (
          refl,
          (
            refl,
            marked_append s (layout_facts f l) filled (by_reason f Layout (layout_facts f l) (layout_speak f l))
                (marked_append s (field_facts f l) agreed (by_reason f Field (field_facts f l) (fields_speak f l))
                (marked_append s (agreement_facts f l) linked (by_reason f Agreement (agreement_facts f l) (agreement_speak f l))
                (marked_append s (target_facts f l) (return_facts f l) (by_reason f Target (target_facts f l) (targets_speak f l)) (by_reason f Return (return_facts f l) (returns_speak f l))))),
          ),
        ),
      ),
    )

-- THEOREM
pub refused_truly : (f : List ℕ) (m : Mark) → judged_of f ≡ Err m → TrueReason (says_of f) (facts f) m
refused_truly f m e = true_reason (says_of f) (facts f) m (facts_marked f) e
