-- `octets::distance_at` meets its contract.
use Rattle.octets.proofs.Signs.{distance_of_number}
use Rattle.octets.proofs.distance_at.Goals as goal

pub returns : goal.returns
returns c = distance_of_number c.args.w _ _ _ _ _ c.num_at.ensures c.half.ensures c.distance_of.ensures
