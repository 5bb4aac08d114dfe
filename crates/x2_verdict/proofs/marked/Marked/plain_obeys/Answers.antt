-- `Marked::plain_obeys` meets its contract.
use Rattle.x2_verdict.proofs.Neighbours.{pair_linked}
use Rattle.x2_verdict.proofs.marked.Marked.plain_obeys.Goals as goal

pub returns : goal.returns
returns c = λ e. pair_linked _ c.args.self.now.l _ _ _ c.previous_of-x.ensures c.next_of-y.ensures (c.link_obeys.ensures c.if-not-link_obeys.false) (c.next_obeys.ensures e)
