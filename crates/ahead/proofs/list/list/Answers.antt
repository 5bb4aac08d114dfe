-- `ahead::list::list` meets its contract.
use mathlib.Core.Path.{ap, ◌∙◌}
use Rattle.route_walks.specs.Lent.{lays}
use Rattle.ahead.proofs.Looking.{sight_is}
use Rattle.ahead.proofs.list.list.Goals as goal

pub returns : goal.returns
returns c = let f = c.follow-seen.ensures in
    record { seen = sight_is _ _ _ f; stored = c.put_words.ensures ∙ ap (lays _ 0) f.listed }
