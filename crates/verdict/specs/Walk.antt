-- What stands without gaps from a place to an end, each as long as its size: the places where they start.
-- `walk` counts down the number of records that there can be at most; each is a byte long or more, so `end` are enough.
use Rattle.std.specs.Prelude.{ℕ, suc, zero, ◌+◌, cond, List, [], ◌∷◌, ltb}

-- at most k of them
unfoldable pub walk : (ℕ → ℕ) → ℕ → ℕ → ℕ → List ℕ
walk size end zero at = []
walk size end (suc k) at = cond (ltb at end) (at ∷ walk size end k (at + size at)) []

-- all of them
unfoldable pub starts_from : (ℕ → ℕ) → ℕ → ℕ → List ℕ
starts_from size end at = walk size end end at

-- b is reached from a by whole records
pub data Reach (size : ℕ → ℕ) : ℕ → ℕ → Type 0 where
  here : {a : ℕ} → Reach size a a
  onward : {a b : ℕ} → Reach size (a + size a) b → Reach size a b
