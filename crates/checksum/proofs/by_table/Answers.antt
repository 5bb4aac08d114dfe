-- `checksum::by_table` meets its contract: the bytes of the turns enter, then the fours that are left, and then the rest.
use Rattle.std.proofs.Common.{◌≡◌, ◌∙◌, rules}
use Rattle.std.specs.List.{fold}
use Rattle.std.proofs.lemmas.Iterator.{YieldsList-from_slice}
use Rattle.std.proofs.lemmas.Iterator.Consumers.{fold_from_yields_List}
use Rattle.checksum.specs.Checksum.{byte_step, checksum_from}
use Rattle.checksum.specs.inner.Table.{empty_steps}
use Rattle.checksum.proofs.Walk.{from_fold, all_pieces}
use Rattle.checksum.proofs.by_table.Goals as goal

pub returns : goal.returns
unfolding empty_steps
returns c =
    let near = c.requires.nearby in
    let turns = c.as_chunks.result.0.now in
    let fours = c.as_chunks-2.result.0.now in
    let later = c.as_chunks.result.1.now in
    let rest = c.as_chunks-2.result.1.now in
    let turned : c.fold-turned.result ≡ fold checksum_from c.args.register turns =
    fold_from_yields_List _ checksum_from _ _ c.fold-turned.ensures.ran (YieldsList-from_slice turns cc) (λ a x b q k. search rules) in
    let stepped : c.fold-stepped.result ≡ fold checksum_from c.fold-turned.result fours =
    fold_from_yields_List _ checksum_from _ _ c.fold-stepped.ensures.ran (YieldsList-from_slice fours cc) (λ a x b q k. search rules) in
    let last : c.fold.result ≡ fold byte_step c.fold-stepped.result rest =
    fold_from_yields_List _ byte_step _ _ c.fold.ensures.ran (YieldsList-from_slice rest cc) (λ a x b q k. search rules) in
    last
    ∙ from_fold rest c.fold-stepped.result
    ∙ all_pieces 4 later c.fold-turned.result c.fold-stepped.result fours rest stepped c.as_chunks-2.ensures.front c.as_chunks-2.ensures.back
    ∙ all_pieces 16 c.args.s.now c.args.register c.fold-turned.result turns later turned c.as_chunks.ensures.front c.as_chunks.ensures.back
