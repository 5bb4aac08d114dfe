-- `ahead::ways::at_front` meets its contract.
use Rattle.std.proofs.Common.{rules}
use Rattle.ahead.specs.Ways.{front_of}
use Rattle.ahead.proofs.ways.at_front.Goals as goal

pub returns-in-Normal : goal.returns-in-Normal
unfolding front_of
returns-in-Normal c = search rules

pub returns-in-Reverse : goal.returns-in-Reverse
unfolding front_of
returns-in-Reverse c = search rules

pub returns-in-Unknown : goal.returns-in-Unknown
unfolding front_of
returns-in-Unknown c = search rules
