-- What a question for degrees gives: the coordinate with its degrees, or the fault.
use Rattle.std.specs.Prelude.{Result}
use Rattle.verdict.specs.declared.Fault.{Fault}
use Rattle.x1_degrees.specs.declared.Surveyed.{Surveyed}

abbrev pub DegreesAnswer : Type 0
DegreesAnswer = Result Surveyed Fault
