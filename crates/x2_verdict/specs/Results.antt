-- What each question on an X.2 gives: what was asked for, or the fault.
use Rattle.std.specs.Prelude.{Result}
use Rattle.verdict.specs.declared.Fault.{Fault}
use Rattle.x2_records.specs.declared.Record.{Record}
use Rattle.x2_verdict.specs.declared.NamedHeader.{NamedHeader}

abbrev pub NamedHeaderAnswer : Type 0
NamedHeaderAnswer = Result NamedHeader Fault

abbrev pub RecordAnswer : Type 0
RecordAnswer = Result Record Fault
