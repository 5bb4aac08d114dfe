-- `plan_question::read_words` meets its contract. The loop's invariant: the words before k are read.
use Rattle.std.proofs.Common.{◌≡◌, take}
use Rattle.plan_question.specs.inner.Words.{words_in}
use Rattle.plan_question.proofs.read_words.Given as goal

abbrev pub invariant-loop-k : goal.invariant-loop-k
invariant-loop-k l = take l.k l.words ≡ words_in l.k l.bytes
