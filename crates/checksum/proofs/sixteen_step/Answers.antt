-- `checksum::sixteen_step` meets its contract: `sixteen` says that the last twelve bytes may enter an empty register, beside the first four.
use Rattle.std.proofs.Common.{◌∙◌, ap, ℕ, List, arith}
use Rattle.checksum.specs.Checksum.{checksum_from}
use Rattle.checksum.specs.inner.Table.{empty_steps}
use Rattle.checksum.proofs.Walk.{quarters, sixteen}
use Rattle.checksum.proofs.sixteen_step.Goals as goal

pub returns : goal.returns
unfolding empty_steps
returns c =
    let near = c.requires.nearby in
    let four = quarters c.args.turn.now c.as_chunks.result.0.now (omega arith) c.as_chunks.ensures.front in
    sixteen c.args.turn.now c.args.register _ _ _ _ (omega arith) (omega arith)
    (c.four_step-second.ensures 0 near ∙ ap (checksum_from _) four.1)
    (c.four_step-third.ensures 0 near ∙ ap (checksum_from _) four.2)
    (c.four_step-fourth.ensures 0 near ∙ ap (checksum_from _) four.3)
    (c.four_step.ensures 12 c.requires.distant ∙ ap (λ (l : List ℕ). empty_steps 12 (checksum_from c.args.register l)) four.0)
