-- `x2_layout::numbers::layout_of` meets its contract.
use mathlib.Core.Path.{refl}
use native.Mathlib.Omega.{arith}
use Rattle.x2_layout.proofs.Reading.{layout_is}
use borrow.Author.Rules.{rules}
use Rattle.x2_layout.proofs.numbers.layout_of.Goals as goal

pub returns : goal.returns
returns c = let a = c.args in
    let starts = c.number_of-n.ensures.below in
    let ends = c.byte_at-k.ensures.below in record {
      value = layout_is a.f.now c.number_of-n.result c.byte_at-k.result c.end_of-end.result c.yard_offsets-o.result c.number_of-n.ensures.is c.byte_at-k.ensures.is c.end_of-end.ensures
          c.yard_offsets-o.ensures.value _ _ _ _ c.group_end-balises.ensures.value c.group_end-signals.ensures.value c.group_end-joints.ensures.value c.group_end-sidings.ensures.value;
      small = record { n = omega arith; k = omega arith; starts = refl; ends = refl; turnouts = refl; end = search rules };
    }
