-- What the question answers: how many objects are listed and why no more, or why none.
use Rattle.std.specs.Prelude.{Result}
use Rattle.ahead.specs.declared.Sight.{Sight}
use Rattle.ahead.specs.declared.AheadFault.{AheadFault}

abbrev pub AheadAnswer : Type 0
AheadAnswer = Result Sight AheadFault
