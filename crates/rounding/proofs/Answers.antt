-- What `coordinate` answers: the coordinate exactly where the limits are kept; and what a caller who keeps them knows of the answer.
use mathlib.Core.Path.{◌≡◌, refl, sym, ap, ap₂, ◌∙◌, subst}
use mathlib.Core.Bool.{Bool, true, false, ◌&&◌}
use Prim.Native.Nat.{ℕ}
use native.Mathlib.Omega.{arith}
use lib.Dec.{T, leb, ltb}
use lib.IntN.{ℤ, nat_abs}
use mir.Facts.{and_yes, leb_yes, ltb_yes}
use borrow.Author.Tests.{le-leb, lt-ltb}
use Rattle.octets.proofs.Signs.{kept, read}
use Rattle.std.specs.Prelude.{Option, Some, None}
use Rattle.rounding.specs.Nearest.{nearest_of, exact_of, coordinate_of}
use Rattle.rounding.specs.Way.{farthest, longest, inside_of, way_of, Limits}
use Rattle.rounding.proofs.Ends.{coordinate_mag}

module _ (y0 y1 : ℤ) (t den : ℕ) where
  -- the test, of the distances that the ends have from 0
  pub tested : {a b : ℕ} → a ≡ nat_abs y0 → b ≡ nat_abs y1 → (leb a farthest && (leb b farthest && (leb t den && (ltb 0 den && leb den longest)))) ≡ inside_of y0 y1 t den
  unfolding inside_of
  tested p q = simp (p, q)

  -- the test passes exactly where the limits are kept
  pub limits : inside_of y0 y1 t den ≡ true → Limits y0 y1 t den
  unfolding inside_of
  limits e =
      let a = and_yes (leb (nat_abs y0) farthest) _ (subst T (sym e) tt) in
      let b = and_yes (leb (nat_abs y1) farthest) _ a.1 in
      let c = and_yes (leb t den) _ b.1 in
      let d = and_yes (ltb 0 den) _ c.1 in
      record { first = leb_yes a.0; last = leb_yes b.0; on = leb_yes c.0; some = ltb_yes d.0; short = leb_yes d.1 }

  pub inside_limits : Limits y0 y1 t den → inside_of y0 y1 t den ≡ true
  unfolding inside_of
  inside_limits l =
      simp (le-leb (nat_abs y0) farthest l.first, le-leb (nat_abs y1) farthest l.last, le-leb t den l.on, lt-ltb 0 den l.some, le-leb den longest l.short)

  -- the two answers, by the test
  inside : inside_of y0 y1 t den ≡ true → way_of y0 y1 t den ≡ Some (coordinate_of y0 y1 t den)
  unfolding way_of
  inside e = simp e

  pub outside : inside_of y0 y1 t den ≡ false → way_of y0 y1 t den ≡ None
  unfolding way_of
  outside e = simp e

  -- where the limits are kept the answer is the coordinate, and only there
  pub answered : Limits y0 y1 t den → way_of y0 y1 t den ≡ Some (coordinate_of y0 y1 t den)
  answered l = inside (inside_limits l)

  pub answered_only : {r : ℤ} → way_of y0 y1 t den ≡ Some r → Limits y0 y1 t den
  answered_only {r} e = by_test (inside_of y0 y1 t den) refl
    where
      by_test : (b : Bool) → inside_of y0 y1 t den ≡ b → Limits y0 y1 t den
      by_test true i = limits i
      by_test false i = let o = outside i in let z : ◌≡◌ {A = ℕ} 0 1 = cc in absurd (omega arith)

  -- the coordinate in two steps, as the code finds it
  pub found : {e r : ℤ} → inside_of y0 y1 t den ≡ true → e ≡ exact_of y0 y1 t den → r ≡ nearest_of e den → Some r ≡ way_of y0 y1 t den
  unfolding coordinate_of
  found i p q = ap Some (q ∙ ap (λ (z : ℤ). nearest_of z den) p) ∙ sym (inside i)

-- ---- for a caller who keeps the limits: z0 and z1 are the ends as the machine reads them, w is the answer

module _ {y0 y1 : ℤ} {t den : ℕ} (l : Limits y0 y1 t den) {z0 z1 : ℤ} {w : Option ℤ} (p : z0 ≡ y0) (q : z1 ≡ y1) (e : w ≡ way_of z0 z1 t den) where
  called : w ≡ Some (coordinate_of y0 y1 t den)
  called = e ∙ ap₂ (λ (x y : ℤ). way_of x y t den) p q ∙ answered y0 y1 t den l

  pub never_outside : w ≡ None → ⊥
  never_outside o = let c = called in let z : ◌≡◌ {A = ℕ} 0 1 = cc in omega arith

  pub given : {r : ℤ} → w ≡ Some r → r ≡ coordinate_of y0 y1 t den
  given {r} a = let c = called in cc

  pub given_read : {r : ℤ} → w ≡ Some r → read r ≡ coordinate_of y0 y1 t den
  given_read {r} a =
      ap read (given a) ∙ kept (coordinate_of y0 y1 t den) (omega (arith, coordinate_mag y0 y1 t den l.on l.some farthest l.first l.last))
