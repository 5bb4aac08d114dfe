-- `plan_lines::counted` meets its contract. The loop's invariant: the words passed are offsets, so that those that are left say how many there are.
use Rattle.std.proofs.Common.{◌≡◌, ◌+◌, ◌≤◌, length}
use Rattle.plan_lines.specs.Lines.{words_in, all_offsets}
use Rattle.plan_lines.proofs.counted.Given as goal

abbrev pub invariant-loop-word : goal.invariant-loop-word
invariant-loop-word l = record {
  bound : l.count + length l.word-iterator.0.now ≤ length l.text;
  counted : length (words_in l.text) ≡ l.count + length (words_in l.word-iterator.0.now);
  tested : all_offsets (words_in l.text) ≡ all_offsets (words_in l.word-iterator.0.now);
}
