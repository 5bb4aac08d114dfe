-- `names::is_name` meets its contract: the name says whether there are enough bytes.
use mathlib.Core.Path.{sym, ◌∙◌}
use Rattle.std.specs.Prelude.{Some, None}
use Rattle.names.proofs.Spelling.{told_enough}
use Rattle.names.proofs.is_name.Goals as goal

pub returns-in-Some : goal.returns-in-Some
returns-in-Some c = told_enough _ _ _ (Some _) (sym c.in-Some.is ∙ c.name_in.ensures)

pub returns-in-None : goal.returns-in-None
returns-in-None c = told_enough _ _ _ None (sym c.in-None.is ∙ c.name_in.ensures)
