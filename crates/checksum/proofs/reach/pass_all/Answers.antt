-- `checksum::reach::pass_all` meets its contract. The loop's invariant: the blocks before this one have been passed on.
use Rattle.std.proofs.Common.{◌≡◌, ◌*◌, ◌/◌, ◌∙◌, ℕ, ap, sym, length, drop, arith}
use Rattle.checksum.proofs.Row.{passes_none, passes_on, passes_all}
use Rattle.checksum.proofs.reach.pass_all.Goals as goal

pub loop-block-init : goal.loop-block-init
loop-block-init c = passes_none _ c.args.s.now

pub loop-block-preserved : goal.loop-block-preserved
loop-block-preserved c =
    passes_on 2048 _ c.loop-block.block-index _ _ _ _ _ c.as_chunks.ensures.front (omega arith) c.loop-block.invariant c.pass_part.ensures

pub returns : goal.returns
returns c = let l = c.loop-block in
    let all : l.block-index ≡ length c.args.s.now / 2048 = omega (arith, c.as_chunks.ensures.front_len) in
    passes_all _ _ _ c.args.s.now _ (l.block-index * 2048) (c.as_chunks.ensures.back ∙ ap (λ (k : ℕ). drop (k * 2048) c.args.s.now) (sym all)) l.invariant c.pass_part-2.ensures
