-- Lists of facts in sections: each fact of a section carries the section's reason, and its claim is what its mark says. So the first
-- section that does not hold gives the number.
use Prim.Native.Nat.{ℕ}
use mathlib.Core.Path.{◌≡◌}
use mathlib.Core.Bool.{Bool, true, false, cond, not}
use mathlib.Core.List.{List, [], ◌∷◌, ◌++◌, flat_map}
use Rattle.verdict.specs.declared.Mark.{Mark}
use Rattle.verdict.specs.declared.Reason.{Reason}
use Rattle.verdict.specs.Facts.{Claim, Fact, fact, Marked}

-- ---- a property of each fact

abbrev pub Each : (Claim → Mark → Type 0) → List Fact → Type 0
Each P [] = Unit {0}
Each P (fact c m ∷ fs) = P c m × Each P fs

-- the fact has this reason, and its claim is what its mark says
abbrev pub Speaks : (Mark → Claim) → Reason → Claim → Mark → Type 0
Speaks says r c m = (m.reason ≡ r) × (c ≡ says m)

module _ (P : Claim → Mark → Type 0) where
  pub each_append : (a b : List Fact) → Each P a → Each P b → Each P (a ++ b)
  each_append [] b h g = g
  each_append (fact c m ∷ fs) b h g = (h.0, each_append fs b h.1 g)

  pub each_flat : (g : ℕ → List Fact) (xs : List ℕ) → ((x : ℕ) → Each P (g x)) → Each P (flat_map g xs)
  unfolding flat_map
  each_flat g [] h = tt
  each_flat g (x ∷ xs) h = each_append (g x) (flat_map g xs) (h x) (each_flat g xs h)

  pub each_if : (t : Bool) (a b : List Fact) → Each P a → Each P b → Each P (cond t a b)
  each_if true a b h g = h
  each_if false a b h g = g

pub marked : (says : Mark → Claim) (r : Reason) (fs : List Fact) → Each (Speaks says r) fs → Marked says fs
marked says r [] h = tt
marked says r (fact c m ∷ fs) h = (h.0.1, marked says r fs h.1)
