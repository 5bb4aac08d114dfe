-- Places that rise over records without gaps, of any sizes and wherever they end.
use Prim.Native.Nat.{ℕ, suc, zero, ◌+◌}
use mathlib.Core.Bool.{Bool, true, false, cond}
use mathlib.Core.List.{List, [], ◌∷◌, flat_map}
use lib.Dec.{ltb}
use native.Mathlib.Nat.{le_refl}
use Rattle.verdict.specs.Facts.{Fact}
use Rattle.verdict.specs.Walk.{walk, starts_from}
use Rattle.refusals.proofs.Places.{Rises, rises_append}

-- they rise up to some number
pub record Rising (low : ℕ) (fs : List Fact) : Type 0 where
  pub high : ℕ
  pub rises : Rises low high fs

module _ (size : ℕ → ℕ) (end : ℕ) (g : ℕ → List Fact) (own : (x : ℕ) → Rises x (x + size x) (g x)) where
  walk_rising : (k at : ℕ) → Rising at (flat_map g (walk size end k at))
  unfolding walk flat_map
  walk_rising zero at = record { high = at; rises = le_refl at }
  walk_rising (suc k) at = go (ltb at end) (walk_rising k (at + size at))
    where
      go : (t : Bool) → Rising (at + size at) (flat_map g (walk size end k (at + size at))) → Rising at (flat_map g (cond t (at ∷ walk size end k (at + size at)) []))
      go true ih = record { high = ih.high; rises = rises_append at (at + size at) ih.high (g at) (flat_map g (walk size end k (at + size at))) (own at) ih.rises }
      go false ih = record { high = at; rises = le_refl at }

  -- LAW
  pub starts_rising : (at : ℕ) → Rising at (flat_map g (starts_from size end at))
  unfolding starts_from
  starts_rising at = walk_rising end at
