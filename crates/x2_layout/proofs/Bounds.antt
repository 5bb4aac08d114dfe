-- A right layout of a file of at most 65,535 bytes has the numbers of a file. Of such a layout the checks ask all their facts, of another
-- none.
use Prim.Native.Nat.{ℕ, ◌≤◌}
use mathlib.Core.Path.{◌≡◌, ◌∙◌, sym, ap}
use Rattle.std.specs.Prelude.{Ok}
use mathlib.Core.Bool.{Bool, true, false, cond}
use mathlib.Core.List.{List, []}
use mathlib.Core.Logic.{◌↔◌}
use lib.ListN.{length}
use native.Mathlib.Omega.{arith}
use Rattle.verdict.specs.Verdicts.{Judged}
use Rattle.verdict.specs.Facts.{Fact, first_fault, test}
use Rattle.verdict.proofs.Facts.{tested}
use Rattle.x2_layout.specs.declared.Layout.{Layout}
use Rattle.x2_layout.specs.inner.Bounds.{place_most, bounded, Bounded, if_bounded}
use Rattle.x2_layout.specs.inner.Regions.{Regions}

pub regions_bounded : (f : List ℕ) (l : Layout) → Regions f l → length f ≤ place_most → Bounded l
regions_bounded f l r h = record { n = omega arith; k = omega arith; starts = omega arith; ends = omega arith; end = omega arith }

module _ (l : Layout) where
  pub bounded_iff : (test (bounded l) ≡ true) ↔ Bounded l
  bounded_iff =
      let t = tested (bounded l) in (
        λ e. let h = t.0 e in record { n = h.0; k = h.1.0; starts = h.1.1.0; ends = h.1.1.1.0; end = h.1.1.1.1 },
        λ b. t.1 (b.n, (b.k, (b.starts, (b.ends, b.end)))),
      )

  asked : (fs : List Fact) (t : Bool) → test (bounded l) ≡ t → first_fault (if_bounded l fs) ≡ first_fault (cond t fs [])
  unfolding if_bounded
  asked fs t e = ap (λ (b : Bool). first_fault (cond b fs [])) e

  pub all_asked : (fs : List Fact) → Bounded l → first_fault (if_bounded l fs) ≡ first_fault fs
  all_asked fs b = asked fs true (bounded_iff.1 b)

  -- a check that first asks `is_bounded`, whose answer is t, and goes on where it says yes
  module _ (t : Bool) (is : t ≡ test (bounded l)) where
    pub none_asked : t ≡ false → (fs : List Fact) → Ok tt ≡ first_fault (if_bounded l fs)
    unfolding first_fault
    none_asked e fs = sym (asked fs false (sym is ∙ e))

    pub is_bounded : t ≡ true → Bounded l
    is_bounded e = bounded_iff.0 (sym is ∙ e)

    pub all_judged : t ≡ true → (r : Judged) (fs : List Fact) → r ≡ first_fault fs → r ≡ first_fault (if_bounded l fs)
    all_judged e r fs p = p ∙ sym (all_asked fs (is_bounded e))
