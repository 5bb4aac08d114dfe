-- `x1_fields::point_obeys` meets its contract: where the file ends inside the point, the test is what its facts say.
use Rattle.verdict.proofs.Facts.{tests_judged}
use Rattle.x1_fields.specs.Fields.{point_fields}
use Rattle.x1_fields.proofs.point_obeys.Goals as goal

pub returns-then-f-p : goal.returns-then-f-p
returns-then-f-p c = tests_judged _ _ (point_fields c.args.f.now c.args.p) c.point_fields.ensures c.is_ok.ensures.value
