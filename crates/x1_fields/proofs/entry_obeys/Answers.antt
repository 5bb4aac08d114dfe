-- `x1_fields::entry_obeys` meets its contract: where the file ends inside the entry, the test is what its facts say.
use Rattle.verdict.proofs.Facts.{tests_judged}
use Rattle.x1_fields.specs.Fields.{entry_fields}
use Rattle.x1_fields.proofs.entry_obeys.Goals as goal

pub returns-then-f-e : goal.returns-then-f-e
returns-then-f-e c = tests_judged _ _ (entry_fields c.args.f.now c.args.e) c.entry_fields.ensures c.is_ok.ensures.value
