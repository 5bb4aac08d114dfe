-- A file that passed the check of its length has a length between the two numbers.
use Prim.Native.Nat.{ℕ, ◌≤◌}
use mathlib.Core.Path.{◌≡◌, ◌∙◌, sym}
use mathlib.Core.List.{List, [], ◌∷◌}
use lib.ListN.{length}
use Rattle.std.specs.Prelude.{Ok}
use Rattle.verdict.specs.Verdicts.{Judged}
use Rattle.verdict.specs.Facts.{first_fault, AllHold}
use Rattle.verdict.proofs.Facts.{accepted_iff}
use Rattle.rules.specs.Rules.{length_between}

pub length_held : (f : List ℕ) (low high : ℕ) (v : Judged) → v ≡ first_fault (length_between f low high ∷ []) → v ≡ Ok tt → (low ≤ length f) × (length f ≤ high)
unfolding AllHold
length_held f low high v p e = ((accepted_iff (length_between f low high ∷ [])).0 (sym p ∙ e)).0
