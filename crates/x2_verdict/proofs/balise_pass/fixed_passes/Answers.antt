-- `x2_verdict::balise_pass::fixed_passes` meets its contract: each field in turn.
use mathlib.Core.Path.{◌∙◌, sym}
use borrow.Author.Tests.{not-true, eqb-false}
use native.Mathlib.Omega.{arith}
use Prim.Native.Nat.{◌+◌}
use Rattle.x2_verdict.proofs.Balises.{four_below}
use Rattle.x2_verdict.proofs.balise_pass.fixed_passes.Goals as goal

pub returns : goal.returns
returns c = λ e.
    let a = c.args in
    let bytes = c.shared_slice_known-1.given in
    record {
      entry = sym c.byte_of.ensures.is ∙ c.if-byte_of-ne-TYPE.false;
      number = c.number_passes.ensures c.if-not-number_passes.false;
      attribute = c.attribute_passes.ensures c.if-not-attribute_passes.false;
      position = (omega arith, four_below a.f.now (a.at + 10) (λ i. (bytes i).fits) (omega (arith, c.if-later_byte_of-ge-POSITION_TOP.false, c.later_byte_of.ensures.is)));
      track = (omega (arith, eqb-false c.byte_of-2.result 0 (not-true _ e), c.byte_of-2.ensures.is), omega (arith, c.byte_of-2.ensures.is, c.byte_of-2.ensures.below));
    }
