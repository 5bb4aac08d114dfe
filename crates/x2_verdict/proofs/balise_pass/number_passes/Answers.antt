-- `x2_verdict::balise_pass::number_passes` meets its contract: one of the three bytes is not 0xFF.
use Prim.Native.Nat.{◌+◌}
use mathlib.Core.Path.{◌∙◌}
use borrow.Author.Tests.{not-true, eqb-false}
use native.Mathlib.Omega.{arith}
use Rattle.x2_verdict.proofs.Balises.{three_below}
use Rattle.x2_verdict.proofs.balise_pass.number_passes.Goals as goal

pub returns-then-byte_of-ne-NONE_BYTE : goal.returns-then-byte_of-ne-NONE_BYTE
returns-then-byte_of-ne-NONE_BYTE c = λ e.
    let bytes = c.shared_slice_known-1.given in
    let a = c.args in
    (omega arith, three_below a.f.now (a.at + 5) (λ i. (bytes i).fits) (λ p q r. c.if-byte_of-ne-NONE_BYTE.true (c.byte_of.ensures.is ∙ p)))

pub returns-then-later_byte_of-ne-NONE_BYTE : goal.returns-then-later_byte_of-ne-NONE_BYTE
returns-then-later_byte_of-ne-NONE_BYTE c = λ e.
    let bytes = c.shared_slice_known-1.given in
    let a = c.args in
    (omega arith, three_below a.f.now (a.at + 5) (λ i. (bytes i).fits) (λ p q r. c.if-later_byte_of-ne-NONE_BYTE.true (c.later_byte_of.ensures.is ∙ q)))

pub returns : goal.returns
returns c = λ e.
    let bytes = c.shared_slice_known-1.given in
    let a = c.args in
    (omega arith, three_below a.f.now (a.at + 5) (λ i. (bytes i).fits) (λ p q r. eqb-false _ 0xFF (not-true _ e) (c.later_byte_of-2.ensures.is ∙ r)))
