-- `x2_verdict::kind_passes::is_position` meets its contract.
use Rattle.x2_verdict.proofs.SingleBytes.{position_tested}
use Rattle.x2_verdict.proofs.kind_passes.is_position.Goals as goal

pub returns : goal.returns
returns c = position_tested _ _ _ (λ i. (c.shared_slice_known-1.given i).fits)
