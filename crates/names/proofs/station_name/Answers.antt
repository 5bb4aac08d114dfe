-- `names::station_name` meets its contract. Each part of the test is what its function ensures.
use Rattle.verdict.specs.Facts.{first_fault}
use mathlib.Core.Path.{refl}
use Rattle.names.specs.Names.{station_name}
use Rattle.names.proofs.station_name.Goals as goal

pub returns : goal.returns
unfolding station_name first_fault
returns c = simp (c.fact.ensures, c.zeros-ended.ensures, c.codes-coded.ensures, c.code_count-n.ensures.is) refl
