-- The facts of counted entries, each of which has its facts at one place: where they fail, and that their places rise.
use Prim.Native.Nat.{ℕ, suc, zero, ◌+◌, ◌-◌, ◌≤◌, ◌<◌}
use mathlib.Core.Path.{◌≡◌, refl, subst}
use mathlib.Core.Bool.{Bool, true, false, cond}
use mathlib.Core.Logic.{◌↔◌}
use mathlib.Core.List.{List, [], ◌∷◌, flat_map}
use lib.Dec.{ltb}
use native.Mathlib.Omega.{arith}
use borrow.Author.Tests.{ltb-true, ltb-false}
use Rattle.verdict.specs.Facts.{Fact, AllHold}
use Rattle.verdict.specs.Walk.{walk, starts_from}
use Rattle.refusals.proofs.Sections.{Each}
use Rattle.refusals.proofs.Places.{Failing, failing_each, one_place, Rises, rises_append}
use Rattle.x2_layout.specs.Facts.{indexes}
use Rattle.x2_layout.proofs.Walks.{index_iff}

-- LAW: entry i has its facts at `at i`, and they hold exactly where A i does
pub entries_fail : (g : ℕ → List Fact) (n : ℕ) (at : ℕ → ℕ) (A : ℕ → Type 0) → ((i : ℕ) → Each (λ c m. m.place ≡ at i) (g i)) → ((i : ℕ) → AllHold (g i) ↔ A i)
    → (p : ℕ) → Failing (flat_map g (indexes n)) p ↔ ((i : ℕ) × (i < n) × (p ≡ at i) × (A i → ⊥))
entries_fail g n at A k iff p =
    let each = failing_each g (indexes n) p in (
      λ h. let w = each.0 h in let x = (one_place (at w.0) (g w.0) (A w.0) (k w.0) (iff w.0) p).0 w.2 in (w.0, (index_iff n w.0).0 w.1, x.0, x.1),
      λ w. each.1 (w.0, (index_iff n w.0).1 w.1, (one_place (at w.0) (g w.0) (A w.0) (k w.0) (iff w.0) p).1 (w.2, w.3)),
    )

-- entry i lies between `pos i` and the next one's
module _ (pos : ℕ → ℕ) (g : ℕ → List Fact) (own : (i : ℕ) → Rises (pos i) (pos (i + 1)) (g i)) (n high : ℕ) (h : pos n ≤ high) where
  walk_rises : (k i : ℕ) → i ≤ n → n - i ≤ k → Rises (pos i) high (flat_map g (walk (λ _. 1) n k i))
  unfolding walk flat_map
  walk_rises zero i l d = let e : n ≡ i = omega arith in subst (λ (x : ℕ). pos x ≤ high) e h
  walk_rises (suc k) i l d = go (ltb i n) refl (walk_rises k (i + 1))
    where
      go : (t : Bool) → ltb i n ≡ t → (i + 1 ≤ n → n - (i + 1) ≤ k → Rises (pos (i + 1)) high (flat_map g (walk (λ _. 1) n k (i + 1))))
          → Rises (pos i) high (flat_map g (cond t (i ∷ walk (λ _. 1) n k (i + 1)) []))
      go true q ih = let z = ltb-true i n q in rises_append (pos i) (pos (i + 1)) high (g i) (flat_map g (walk (λ _. 1) n k (i + 1))) (own i) (ih (omega arith) (omega arith))
      go false q ih = let z = ltb-false i n q in let e : n ≡ i = omega arith in subst (λ (x : ℕ). pos x ≤ high) e h

  -- LAW
  pub entries_rise : Rises (pos 0) high (flat_map g (indexes n))
  unfolding indexes starts_from
  entries_rise = walk_rises n 0 (omega arith) (omega arith)
