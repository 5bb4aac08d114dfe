-- `checksum::four_step` meets its contract: it joins the four entries, and `word_on` says that these make the four steps.
use Rattle.std.proofs.Common.{ap₂, ◌∙◌, arith}
use lib.Bits.{bit_xor}
use Rattle.checksum.proofs.Walk.{word_on}
use Rattle.checksum.proofs.four_step.Goals as goal

pub returns : goal.returns
returns c = let a = c.args in
    λ n right.
    ap₂ bit_xor
    (ap₂ bit_xor (c.entry-first.ensures n right) (c.entry-second.ensures n right))
    (ap₂ bit_xor (c.entry-third.ensures n right) (c.entry-fourth.ensures n right))
    ∙ word_on n a.four.now a.register c.word.result (omega arith) (omega arith) c.fits-four c.word.ensures
