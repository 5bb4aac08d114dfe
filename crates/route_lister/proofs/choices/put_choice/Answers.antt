-- `route_lister::put_choice` meets its contract.
use Rattle.route_lister.proofs.Opening.{one_put}
use Rattle.route_lister.proofs.choices.put_choice.Goals as goal

pub returns : goal.returns
returns c = one_put _ _ _ _ _ c.requires.0 c.requires.2
