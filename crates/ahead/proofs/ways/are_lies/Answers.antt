-- `ahead::ways::are_lies` meets its contract.
use Rattle.ahead.specs.Lies.{are_lies}
use Rattle.ahead.proofs.LieList.{all_tested}
use Rattle.ahead.proofs.ways.are_lies.Goals as goal

pub returns : goal.returns
unfolding are_lies
returns c = simp (c.all_lies.ensures, all_tested)
