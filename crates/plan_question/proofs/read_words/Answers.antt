-- `plan_question::read_words` meets its contract.
use Rattle.std.proofs.Common.{◌≡◌, ◌∙◌, sym, refl, arith, length}
use lib.Seq.{take-length}
use Rattle.plan_question.specs.inner.Words.{words_in}
use Rattle.plan_question.proofs.Reading.{one_read}
use Rattle.plan_question.proofs.read_words.Goals as goal

pub loop-k-init : goal.loop-k-init
unfolding words_in
loop-k-init c = refl

pub loop-k-preserved : goal.loop-k-preserved
loop-k-preserved c = one_read _ _ _ _ (omega (arith, c.loop-k.auto.words)) c.loop-k.invariant c.u16_at.ensures.is

pub returns : goal.returns
returns c =
    let all : c.loop-k.k ≡ length c.args.words.now = omega arith in
    let same : length c.loop-k.words ≡ length c.args.words.now = c.loop-k.auto.words in
    sym (take-length c.loop-k.words) ∙ rw (same, ← all) c.loop-k.invariant
