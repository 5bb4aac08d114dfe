-- X.2's checks in the order of 01's table ('Verdicts and their order'): each with its number, what holds of a file that passes it, and
-- where a refusal is reported, with the numbers that 01 prints. What is at fault in a part is said where its check is. Nothing here
-- speaks of facts.
use Rattle.std.specs.Prelude.{ℕ, ◌≡◌, List, [], ◌∷◌, length, take}
use Rattle.octets.specs.Octets.{num_at}
use Rattle.checksum.specs.Checksum.{checksum_of}
use Rattle.verdict.specs.Order.{Check, check, Lowest}
use Rattle.rules.specs.Rules.{Between}
use Rattle.envelope.specs.Seal.{end_of}
use Rattle.x2_layout.specs.Layout.{layout_of}
use Rattle.x2_layout.specs.Obeys.{LayoutObeys}
use Rattle.x2_theorems.specs.LayoutFaults.{LayoutPlace}
use Rattle.x2_obeys.specs.Fields.{FieldsObey, AgreementObeys}
use Rattle.x2_theorems.specs.FieldFaults.{FieldAtFault, AgreementAtFault}
use Rattle.x2_obeys.specs.Links.{TargetsObey, ReturnsObey}
use Rattle.x2_theorems.specs.LinkFaults.{TargetAtFault, ReturnAtFault}

-- 01: No.1, No.2, No.3, No.4, No.6, No.5, No.7, No.8, No.9, Order.1
abbrev pub checks : List ℕ → List Check
checks f =
    check 1 (Between 69 65535 (length f)) (λ p. p ≡ 0)
    ∷ check 2 (num_at 4 f (end_of f) ≡ checksum_of (take (end_of f) f)) (λ p. p ≡ end_of f)
    ∷ check 3 (num_at 1 f 0 ≡ 2) (λ p. p ≡ 0)
    ∷ check 4 (num_at 2 f 1 ≡ 1) (λ p. p ≡ 1)
    ∷ check 6 (LayoutObeys f (layout_of f)) (LayoutPlace f (layout_of f))
    ∷ check 5 (FieldsObey f (layout_of f)) (Lowest (FieldAtFault f (layout_of f)))
    ∷ check 7 (AgreementObeys f (layout_of f)) (Lowest (AgreementAtFault f (layout_of f)))
    ∷ check 8 (TargetsObey f (layout_of f)) (Lowest (TargetAtFault f (layout_of f)))
    ∷ check 9 (ReturnsObey f (layout_of f)) (Lowest (ReturnAtFault f (layout_of f)))
    ∷ []
