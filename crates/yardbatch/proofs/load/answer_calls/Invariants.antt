-- The bytes of the calls that are left fall.
use Rattle.yardbatch.proofs.load.answer_calls.Given as goal

abbrev pub decreases-loop-left : goal.decreases-loop-left
decreases-loop-left l = l.left
