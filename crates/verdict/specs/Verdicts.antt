-- A verdict: nothing, or why not. Of a file it is the fault, of a pair the fault with its file, and of a list of facts the mark of the first one that
-- fails.
use Rattle.std.specs.Prelude.{Result}
use Rattle.verdict.specs.declared.Fault.{Fault}
use Rattle.verdict.specs.declared.PairFault.{PairFault}
use Rattle.verdict.specs.declared.Mark.{Mark}

abbrev pub Verdict : Type 0
Verdict = Result (Unit {0}) Fault

abbrev pub PairVerdict : Type 0
PairVerdict = Result (Unit {0}) PairFault

abbrev pub Judged : Type 0
Judged = Result (Unit {0}) Mark
