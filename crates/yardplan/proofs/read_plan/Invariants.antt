-- The lines that are left, read after what is read, make of the plan and of the marks what all lines make of them; the words of the routes end inside
-- the plan.
use Rattle.std.proofs.Common.{◌≡◌, ◌≤◌, length}
use Rattle.plan_reading.specs.ReadPlan.{lines_in, read_lines, plan_read, named_after, named_in}
use Rattle.yardplan.proofs.read_plan.Given as goal

abbrev pub invariant-loop-k : goal.invariant-loop-k
invariant-loop-k l = record {
  fits : l.r.words ≤ length l.plan;
  same_length : length l.plan ≡ length l.fn.plan;
  read : read_lines (lines_in l.k-iterator.iter.0.now) (record { reading = l.r; lent = l.plan }) ≡ plan_read l.text l.fn.plan;
  marked : named_after (lines_in l.k-iterator.iter.0.now) (record { reading = l.r; lent = l.plan }) l.named ≡ named_in l.text l.fn.plan l.fn.named;
}
