-- What an answer of `find_layout` says: a layout that is found is the file's own and obeys, and a fault is the first of the layout facts.
use Prim.Native.Nat.{ℕ}
use mathlib.Core.Path.{◌≡◌, ◌∙◌, refl, sym, ap, subst⁻¹}
use mathlib.Core.List.{List}
use mathlib.Core.Logic.{◌↔◌}
use native.Mathlib.Omega.{arith}
use Rattle.verdict.specs.declared.Mark.{Mark}
use Rattle.verdict.specs.Verdicts.{Judged}
use Rattle.std.specs.Prelude.{Ok, Err}
use Rattle.verdict.specs.Facts.{first_fault}
use Rattle.verdict.proofs.Facts.{accepted_iff}
use Rattle.x2_layout.specs.declared.Layout.{Layout}
use Rattle.x2_layout.specs.Results.{Shape}
use Rattle.x2_layout.specs.Layout.{layout_of}
use Rattle.x2_layout.specs.Facts.{layout_facts, shaped, shape_of}
use Rattle.x2_layout.specs.Obeys.{LayoutObeys}
use Rattle.x2_layout.specs.inner.Regions.{Regions}
use Rattle.x2_layout.proofs.Obeys.{layout_obeyed}
use Rattle.x2_layout.proofs.Regions.{regions}

shaped_found : (v : Judged) (l m : Layout) → shaped v l ≡ Ok m → (v ≡ Ok tt) × (m ≡ l)
unfolding shaped
shaped_found (Ok tt) l m e = (refl, cc)
shaped_found (Err n) l m e = let z : ◌≡◌ {A = ℕ} 0 1 = cc in absurd (omega arith)

shaped_faulty : (v : Judged) (l : Layout) (m : Mark) → shaped v l ≡ Err m → v ≡ Err m
unfolding shaped
shaped_faulty (Ok tt) l m e = let z : ◌≡◌ {A = ℕ} 0 1 = cc in absurd (omega arith)
shaped_faulty (Err n) l m e = cc

-- s is the answer
module _ (f : List ℕ) (s : Shape) (p : s ≡ shape_of f) where
  pub faulty_judged : (m : Mark) → s ≡ Err m → first_fault (layout_facts f (layout_of f)) ≡ Err m
  unfolding shape_of
  faulty_judged m e = shaped_faulty (first_fault (layout_facts f (layout_of f))) (layout_of f) m (sym p ∙ e)

  module _ (l : Layout) (e : s ≡ Ok l) where
    found : (first_fault (layout_facts f (layout_of f)) ≡ Ok tt) × (l ≡ layout_of f)
    unfolding shape_of
    found = shaped_found (first_fault (layout_facts f (layout_of f))) (layout_of f) l (sym p ∙ e)

    pub found_judged : first_fault (layout_facts f (layout_of f)) ≡ Ok tt
    found_judged = found.0

    pub found_layout : l ≡ layout_of f
    found_layout = found.1

    pub found_obeys : LayoutObeys f l
    found_obeys = subst⁻¹ (LayoutObeys f) found_layout ((layout_obeyed f (layout_of f)).0 ((accepted_iff (layout_facts f (layout_of f))).0 found.0))

    pub found_regions : Regions f l
    found_regions = subst⁻¹ (Regions f) found_layout (regions f ((layout_obeyed f (layout_of f)).0 ((accepted_iff (layout_facts f (layout_of f))).0 found.0)))

-- a layout is found exactly where it obeys
pub found_iff : (f : List ℕ) → (shape_of f ≡ Ok (layout_of f)) ↔ LayoutObeys f (layout_of f)
unfolding shape_of shaped
found_iff f = (
  λ e. found_obeys f (shape_of f) refl (layout_of f) e,
  λ o. ap (λ (v : Judged). shaped v (layout_of f)) ((accepted_iff (layout_facts f (layout_of f))).1 ((layout_obeyed f (layout_of f)).1 o)),
)
