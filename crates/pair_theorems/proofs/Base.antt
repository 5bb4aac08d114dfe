-- THEOREM (02, ticket 11): a pair whose X.1 has structure version 1 has the verdict that it had.
use Prim.Native.Nat.{ℕ}
use mathlib.Core.Path.{◌≡◌, ap}
use mathlib.Core.List.{List}
use Rattle.verdict.specs.Verdicts.{Verdict}
use Rattle.verdict.specs.Facts.{first_fault}
use Rattle.x1_obeys.specs.Obeys.{structure_of}
use Rattle.x1_theorems.proofs.Base.{as_ever}
use Rattle.x2_layout.specs.Layout.{layout_of}
use Rattle.x2_verdict.specs.Facts as application
use Rattle.pair.specs.Pair.{of_first, of_second, of_pair, pair_facts, pair_of}
use Rattle.pair_theorems.specs.Base.{pair_was}

pub pair_as_ever : (f g : List ℕ) → structure_of f ≡ 1 → pair_of f g ≡ pair_was f g
unfolding pair_of
pair_as_ever f g e =
    ap (λ (v : Verdict). of_first v (of_second (application.verdict_of g) (of_pair (first_fault (pair_facts f g (layout_of g)))))) (as_ever f e).verdict
