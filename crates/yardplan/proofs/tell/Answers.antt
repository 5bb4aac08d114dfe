-- `yardplan::tell` meets its contract: what a line says is one of its four cases.
use Rattle.std.proofs.Common.{refl}
use Rattle.plan_reading.specs.declared.Said.TheVariants as said
use Rattle.plan_reading.specs.ReadPlan.{named_by}
use Rattle.plan_reading.proofs.TextLines.{named_ok, named_err}
use Rattle.yardplan.proofs.tell.Goals as goal

pub returns-in-Nothing : goal.returns-in-Nothing
unfolding named_by
returns-in-Nothing c = named_ok _ _ _ _ said.Nothing c.in-Ok.is c.in-Nothing.is refl

pub returns-in-Start : goal.returns-in-Start
unfolding named_by
returns-in-Start c = rw c.from.ensures (named_ok _ _ _ _ (said.Start _) c.in-Ok.is c.in-Start.is refl)

pub returns-in-Route : goal.returns-in-Route
unfolding named_by
returns-in-Route c = rw c.from-in-Route.ensures (named_ok _ _ _ _ (said.Route _) c.in-Ok.is c.in-Route.is refl)

pub returns-in-Err : goal.returns-in-Err
returns-in-Err c = named_err _ _ _ c.in-Err.is
