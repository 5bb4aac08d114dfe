-- `plan_lines::offset` meets its contract.
use Rattle.std.proofs.Common.{◌∙◌}
use Rattle.plan_lines.proofs.Offsets.{offset_read}
use Rattle.plan_lines.proofs.offset.Goals as goal

pub returns : goal.returns
returns c = c.ok.ensures.value ∙ offset_read _ _ _ c.number_in.ensures c.try_from.ensures
