-- What each question on an X.1 gives: what was asked for, or the fault.
use Rattle.std.specs.Prelude.{Result}
use Rattle.verdict.specs.declared.Fault.{Fault}
use Rattle.envelope.specs.declared.Header.{Header}
use Rattle.x1_records.specs.declared.Track.{Track}
use Rattle.x1_records.specs.declared.Point.{Point}
use Rattle.x1_questions.specs.declared.answers.Coordinate.{Coordinate}

abbrev pub HeaderAnswer : Type 0
HeaderAnswer = Result Header Fault

abbrev pub TrackAnswer : Type 0
TrackAnswer = Result Track Fault

abbrev pub PointAnswer : Type 0
PointAnswer = Result Point Fault

abbrev pub CoordinateAnswer : Type 0
CoordinateAnswer = Result Coordinate Fault
