-- `Marked::names_back` meets its contract: a law of Neighbours where x names a balise, a signal or a joint.
use Rattle.x2_verdict.proofs.Neighbours.{previous_names, next_names}
use Rattle.x2_verdict.proofs.marked.Marked.names_back.Goals as goal

pub returns-then-previous_of-at : goal.returns-then-previous_of-at
returns-then-previous_of-at c = λ e. previous_names _ c.args.self.now.l _ _ c.args.self.now.regions.turnouts.order c.if-place-self.false _ c.previous_of.ensures c.if-previous_of-at.true

pub returns : goal.returns
returns c = λ e. next_names _ c.args.self.now.l _ _ c.args.self.now.regions.turnouts.order c.if-place-self.false _ c.next_of.ensures e
