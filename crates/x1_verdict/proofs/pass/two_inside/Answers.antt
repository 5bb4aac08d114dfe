-- `x1_verdict::pass::two_inside` meets its contract.
use Rattle.octets.proofs.Reading.{more}
use Rattle.x1_verdict.proofs.pass.two_inside.Goals as goal

pub returns : goal.returns
returns c = more 1 _ _ _ _ c.byte_inside.ensures c.byte_inside-2.ensures
