-- The words that are left fall.
use Rattle.std.proofs.Common.{length}
use Rattle.yardplan.proofs.route_lines.Given as goal

abbrev pub decreases-loop-rest : goal.decreases-loop-rest
decreases-loop-rest g l = length l.rest
