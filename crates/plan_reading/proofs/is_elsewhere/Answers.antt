-- `plan_reading::is_elsewhere` meets its contract.
use Rattle.std.proofs.Common.{refl}
use Rattle.plan_routes.proofs.Among.{no_start, first_start}
use Rattle.plan_reading.specs.Reading.{is_elsewhere}
use Rattle.plan_reading.proofs.is_elsewhere.Goals as goal

pub returns-in-None-default : goal.returns-in-None-default
unfolding is_elsewhere
returns-in-None-default c = rw c.in-None-default.is-0 refl

pub returns-in-Some-empty : goal.returns-in-Some-empty
unfolding is_elsewhere
returns-in-Some-empty c = rw (c.in-Some-empty.is-0, no_start c.args.route.now c.in-Some-empty.field-0-0 c.in-Some-empty.len_below) refl

pub returns-in-Some-len1-up : goal.returns-in-Some-len1-up
unfolding is_elsewhere
returns-in-Some-len1-up c = rw (c.in-Some-len1-up.is-0, first_start c.args.route.now c.in-Some-len1-up.start c.in-Some-len1-up.len_at_least, c.from.ensures) refl
