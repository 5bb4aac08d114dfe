-- A pair as it was read by document 01 alone, before ticket 11 of document 02: X.1's verdict was the one of that time. Nothing of the product
-- stands on this definition (proofs/Base).
use Rattle.std.specs.Prelude.{ℕ, List}
use Rattle.verdict.specs.Verdicts.{PairVerdict}
use Rattle.verdict.specs.Facts.{first_fault}
use Rattle.x1_theorems.specs.Base.{verdict_was}
use Rattle.x2_layout.specs.Layout.{layout_of}
use Rattle.x2_verdict.specs.Facts as application
use Rattle.pair.specs.Pair.{of_first, of_second, of_pair, pair_facts}

-- 02: Ticket11.5
abbrev pub pair_was : List ℕ → List ℕ → PairVerdict
pair_was f g = of_first (verdict_was f) (of_second (application.verdict_of g) (of_pair (first_fault (pair_facts f g (layout_of g)))))
